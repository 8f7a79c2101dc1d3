-- Entries of a sorted list that are inserted one after another.
use Rattle.std.proofs.Common.{◌≡◌, ◌+◌, Bool, true, false, ◌||◌, List, [], ◌∷◌, length, refl, sym, ap, subst, ◌∙◌, arith}
use Rattle.std.specs.List.{AllByRecursion, list_any}
use Rattle.std.specs.List.Sorted.{IsStrictlySortedBy}
use Rattle.std.specs.declared.cmp.Ordering.{Ordering}
use Rattle.std.specs.declared.cmp.Ordering.TheVariants.{Less}
use Rattle.std.specs.Ordering.{is_eq, eq_by_cmp}
use Rattle.std.specs.Cmp.{IsTotalOrder, Equal-is, tied_itself}
use Rattle.std.specs.FinMap.{IsAntisymmetric}
use Rattle.std.proofs.lemmas.Bool.{or_left, or_right}
use Rattle.std.proofs.Math.Bool.{or-false, or_assoc}
use Rattle.rbac_sets.specs.Sets.{IsDisjoint, contains, insert, union, from_list}
use Rattle.rbac_sets.proofs.SetLaws.{or_turned, same_set, contains-from_list, contains-insert, contains-union}
use Rattle.rbac_sets.proofs.InOrder.{all_map, none_passes}
use Rattle.chunked_sets.proofs.ChunkLists.{sorted_first, sorted_right}

-- `rest` is to be inserted yet, so that all others are with those that were there at first
pub record Remains {K : Type 0} (R : K → K → Ordering) (first others now rest : List K) : Type 0 where
  pub sorted : IsStrictlySortedBy R rest
  pub apart : (q : K) → list_any (eq_by_cmp R q) rest ≡ true → list_any (eq_by_cmp R q) now ≡ false
  pub total : (q : K) → (list_any (eq_by_cmp R q) now || list_any (eq_by_cmp R q) rest) ≡ (list_any (eq_by_cmp R q) first || list_any (eq_by_cmp R q) others)
  pub count : length now + length rest ≡ length first + length others

module _ {K : Type 0} {R : K → K → Ordering} (o : IsTotalOrder R) (exact : IsAntisymmetric R) where
  pub remains_first : (first others : List K) → IsStrictlySortedBy R others → IsDisjoint (from_list {R = R} first) (from_list {R = R} others) → Remains R first others first others
  remains_first first others s disjoint = record {
    sorted = s;
    apart = λ q member. from q member (list_any (eq_by_cmp R q) first) refl;
    total = λ q. refl;
    count = refl;
  }
    where
      from : (q : K) → list_any (eq_by_cmp R q) others ≡ true → (b : Bool) → list_any (eq_by_cmp R q) first ≡ b → list_any (eq_by_cmp R q) first ≡ false
      from q member false e = e
      from q member true e = let not_there : list_any (eq_by_cmp R q) others ≡ false = sym (contains-from_list o others q) ∙ disjoint q (contains-from_list o first q ∙ e) in cc

  pub remains_absent : (first others now rest : List K) (x : K) → Remains R first others now (x ∷ rest) → contains (from_list {R = R} now) x ≡ false
  remains_absent first others now rest x r = contains-from_list o now x ∙ r.apart x (or_left _ _ (ap is_eq (tied_itself o x)))

  pub remains_more : (first others now new rest : List K) (x : K) → Remains R first others now (x ∷ rest) → from_list {R = R} new ≡ insert (from_list {R = R} now) x
      → length new ≡ length now + 1 → Remains R first others new rest
  remains_more first others now new rest x r inserted longer = record {
    sorted = sorted_right R (x ∷ []) rest r.sorted;
    apart = λ q member. any_new q ∙ (λ i. other q member i || r.apart q (or_right (eq_by_cmp R q x) _ member) i);
    total = λ q. ap (λ b. b || list_any (eq_by_cmp R q) rest) (any_new q)
        ∙ or_assoc (eq_by_cmp R q x) (list_any (eq_by_cmp R q) now) (list_any (eq_by_cmp R q) rest)
        ∙ or_turned (eq_by_cmp R q x) (list_any (eq_by_cmp R q) now) (list_any (eq_by_cmp R q) rest) ∙ r.total q;
    count = omega (arith, r.count, longer);
  }
    where
      any_new : (q : K) → list_any (eq_by_cmp R q) new ≡ (eq_by_cmp R q x || list_any (eq_by_cmp R q) now)
      any_new q = sym (contains-from_list o new q) ∙ ap (λ s. contains s q) inserted ∙ contains-insert o (from_list {R = R} now) x q ∙ ap (λ b. eq_by_cmp R q x || b) (contains-from_list o now q)

      other : (q : K) → list_any (eq_by_cmp R q) rest ≡ true → eq_by_cmp R q x ≡ false
      other q member = from (eq_by_cmp R q x) refl
        where
          from : (b : Bool) → eq_by_cmp R q x ≡ b → eq_by_cmp R q x ≡ false
          from false e = e
          from true e =
              let same : q ≡ x = exact q x ((Equal-is (R q x)).0 e) in
              let none : list_any (eq_by_cmp R x) rest ≡ false = none_passes (eq_by_cmp R x) rest
              (all_map (λ y. R x y ≡ Less) (λ y. eq_by_cmp R x y ≡ false) (λ y less. ap is_eq less) rest (sorted_first R x rest r.sorted)) in
              let none_too : list_any (eq_by_cmp R q) rest ≡ false = ap (λ z. list_any (eq_by_cmp R z) rest) same ∙ none in
              cc

  pub remains_none : (first others now : List K) → Remains R first others now [] → from_list {R = R} now ≡ union (from_list first) (from_list others)
  remains_none first others now r =
      same_set o exact _ _ (λ q. contains-from_list o now q ∙ sym (or-false (list_any (eq_by_cmp R q) now)) ∙ r.total q
      ∙ sym (contains-union o exact (from_list first) (from_list others) q ∙ (λ i. contains-from_list o first q i || contains-from_list o others q i)))

-- what was passed before x is passed before those that are greater
pub passed_rest : {K : Type 0} {R : K → K → Ordering} → IsTotalOrder R → (passed rest : List K) (x : K) → AllByRecursion (λ y. R y x ≡ Less) passed → AllByRecursion (λ z. R x z ≡ Less) rest
    → AllByRecursion (λ z. AllByRecursion (λ y. R y z ≡ Less) passed) rest
passed_rest {R = R} o passed rest x below above =
    all_map (λ z. R x z ≡ Less) (λ z. AllByRecursion (λ y. R y z ≡ Less) passed) (λ z less. all_map (λ y. R y x ≡ Less) (λ y. R y z ≡ Less) (λ y low. o.trans y x z low less) passed below) rest above

pub each_trivial : {K : Type 0} (R : K → K → Ordering) (passed rest : List K) → passed ≡ [] → AllByRecursion (λ z. AllByRecursion (λ y. R y z ≡ Less) passed) rest
each_trivial R passed [] nothing = tt
each_trivial R passed (x ∷ rest) nothing = (subst (AllByRecursion (λ y. R y x ≡ Less)) (sym nothing) tt, each_trivial R passed rest nothing)
