-- The pairs that begin with one name.
use Rattle.std.proofs.Common.{◌≡◌, ◌↔◌, suc, Bool, List, [], ◌∷◌, length, map, refl, sym, ◌∙◌, ap, subst, arith}
use Rattle.std.specs.Prelude.{IsTrue, Contains, count_by}
use Rattle.std.specs.List.{list_any, list_all, AllByRecursion}
use Rattle.std.specs.List.Sorted.{IsStrictlySortedBy}
use Rattle.std.specs.declared.cmp.Ordering.{Ordering}
use Rattle.std.specs.declared.cmp.Ordering.TheVariants.{Less}
use Rattle.std.specs.Ordering.{ordering_then}
use Rattle.std.specs.Cmp.{tied_itself}
use Rattle.std.proofs.lemmas.Bool.{and_parts, and_from}
use Rattle.std.proofs.lemmas.List.{length-map}
use Rattle.std.proofs.lemmas.List.Folds.{list_all-map}
use Rattle.rbac_sets.specs.Sets.{Bytes, Pair, Pairs, name_cmp, pair_cmp, same_name, contains, members, from_list, retain, image, seconds, any, all, count}
use Rattle.rbac_sets.specs.NameOrder.{name_total, name_exact, pair_total, pair_exact}
use Rattle.rbac_sets.proofs.SetLaws.{tie_Decides, contains-retain}
use Rattle.rbac_sets.proofs.Members.{members-retain, members-rise, len-members}
use Rattle.rbac_sets.proofs.InOrder.{members-sorted}
use Rattle.rbac_sets.proofs.Lists.{any_map, count_map}
use Rattle.role_order.specs.private.Checked.{second_cmp}
use Rattle.role_order.specs.private.Runs.{run_of, junior_count}
use Rattle.role_order.proofs.Members.{Contains-members}

-- ---- lists by their first element

contains_first : {X : Type 0} (x : X) (xs : List X) → Contains (x ∷ xs) x
contains_first x xs = (0, omega arith, refl)

contains_later : {X : Type 0} (x : X) (xs : List X) (y : X) → Contains xs y → Contains (x ∷ xs) y
contains_later x xs y h = (suc h.0, omega (arith, h.1), h.2)

-- ---- a run

abbrev begins : Bytes → Pair → Bool
begins a p = same_name p.0 a

run-kept : (pairs : Pairs) (a : Bytes) → run_of pairs a ≡ members (retain pairs (begins a))
run-kept pairs a = sym (members-retain pair_total pair_exact pairs (begins a))

pub run-members : (pairs : Pairs) (a : Bytes) (p : Pair) → Contains (run_of pairs a) p ↔ (IsTrue (contains pairs p) × (p.0 ≡ a))
run-members pairs a p =
    let tie = tie_Decides name_total name_exact p.0 a in
    let kept = Contains-members pair_total pair_exact (retain pairs (begins a)) p in
    let both = contains-retain pair_total pair_exact pairs (begins a) p in (
      λ h.
          let parts = and_parts (contains pairs p) (begins a p) (sym both ∙ kept.0 (subst (λ (xs : List Pair). Contains xs p) (run-kept pairs a) h)) in
          (parts.0, tie.0 parts.1),
      λ h. subst (λ (xs : List Pair). Contains xs p) (sym (run-kept pairs a)) (kept.1 (both ∙ and_from _ _ h.0 (tie.1 h.1))),
    )

after_tie : (o : Ordering) (a b x y : Bytes) → a ≡ b → ordering_then (name_cmp a b) (name_cmp x y) ≡ Less → name_cmp x y ≡ Less
after_tie o a b x y same less = rw (same, tied_itself name_total b) at less

seconds_below : (a : Bytes) (p : Pair) (xs : List Pair) → p.0 ≡ a → ((q : Pair) → Contains xs q → q.0 ≡ a)
    → AllByRecursion (λ q. pair_cmp p q ≡ Less) xs → AllByRecursion (λ q. second_cmp p q ≡ Less) xs
seconds_below a p [] at each below = tt
seconds_below a p (q ∷ xs) at each below = (
  after_tie Less p.0 q.0 p.1 q.1 (at ∙ sym (each q (contains_first q xs))) below.0,
  seconds_below a p xs at (λ r h. each r (contains_later q xs r h)) below.1,
)

seconds_rise : (a : Bytes) (xs : List Pair) → ((q : Pair) → Contains xs q → q.0 ≡ a) → IsStrictlySortedBy pair_cmp xs → IsStrictlySortedBy second_cmp xs
unfolding IsStrictlySortedBy
seconds_rise a [] each rise = tt
seconds_rise a (p ∷ xs) each rise = (
  seconds_below a p xs (each p (contains_first p xs)) (λ q h. each q (contains_later p xs q h)) rise.0,
  seconds_rise a xs (λ q h. each q (contains_later p xs q h)) rise.1,
)

-- a run is in the order of its second names
pub run-rises : (pairs : Pairs) (a : Bytes) → IsStrictlySortedBy second_cmp (run_of pairs a)
run-rises pairs a = seconds_rise a (run_of pairs a) (λ q h. ((run-members pairs a q).0 h).1)
    (subst (IsStrictlySortedBy pair_cmp) (sym (run-kept pairs a)) (members-rise pair_cmp (retain pairs (begins a))))

mapped_below : (p : Pair) (xs : List Pair) → AllByRecursion (λ q. second_cmp p q ≡ Less) xs → AllByRecursion (λ y. name_cmp p.1 y ≡ Less) (map (λ (q : Pair). q.1) xs)
mapped_below p [] below = tt
mapped_below p (q ∷ xs) below = (below.0, mapped_below p xs below.1)

mapped_rise : (xs : List Pair) → IsStrictlySortedBy second_cmp xs → IsStrictlySortedBy name_cmp (map (λ (q : Pair). q.1) xs)
unfolding IsStrictlySortedBy
mapped_rise [] rise = tt
mapped_rise (p ∷ xs) rise = (mapped_below p xs rise.0, mapped_rise xs rise.1)

-- ---- the names that a name has a pair with

-- they are the second names of the run, in its order
pub members_seconds : (pairs : Pairs) (first : Bytes) → members (seconds pairs first) ≡ map (λ (q : Pair). q.1) (run_of pairs first)
unfolding seconds image
members_seconds pairs first =
    ap (λ (xs : List Pair). members (from_list {R = name_cmp} (map (λ (q : Pair). q.1) xs))) (sym (run-kept pairs first))
    ∙ members-sorted name_total (map (λ (q : Pair). q.1) (run_of pairs first)) (mapped_rise (run_of pairs first) (run-rises pairs first))

pub any_seconds : (p : Bytes → Bool) (pairs : Pairs) (first : Bytes) → any p (seconds pairs first) ≡ list_any (λ (q : Pair). p q.1) (run_of pairs first)
unfolding any
any_seconds p pairs first = ap (list_any p) (members_seconds pairs first) ∙ any_map (λ (q : Pair). q.1) p (run_of pairs first)

pub all_seconds : (p : Bytes → Bool) (pairs : Pairs) (first : Bytes) → all p (seconds pairs first) ≡ list_all (λ (q : Pair). p q.1) (run_of pairs first)
unfolding all
all_seconds p pairs first = ap (list_all p) (members_seconds pairs first) ∙ list_all-map p (λ (q : Pair). q.1) (run_of pairs first)

pub count_seconds : (p : Bytes → Bool) (pairs : Pairs) (first : Bytes) → count p (seconds pairs first) ≡ count_by (λ (q : Pair). p q.1) (run_of pairs first)
unfolding count
count_seconds p pairs first = ap (count_by p) (members_seconds pairs first) ∙ count_map (λ (q : Pair). q.1) p (run_of pairs first)

-- the run is as long as a has juniors
pub run-count : (pairs : Pairs) (a : Bytes) → length (run_of pairs a) ≡ junior_count pairs a
run-count pairs a = sym (len-members (seconds pairs a) ∙ ap length (members_seconds pairs a) ∙ length-map (run_of pairs a) (λ (q : Pair). q.1))
