-- Lists of texts as sets of names.
use Rattle.std.proofs.Common.{◌≡◌, ◌≤◌, ◌<◌, ◌∙◌, ◌+◌, ℕ, zero, suc, List, [], ◌∷◌, ◌++◌, Bool, true, false, length, inl, inr, Ok, Err, Bor, map, not, take, get_or, ap, refl, sym, arith, add-one}
use Rattle.std.specs.Prelude.{◌&&◌, ◌||◌}
use Rattle.std.specs.List.{list_all, list_any}
use Rattle.std.specs.List.Sorted.{IsPermutation}
use Rattle.std.specs.Ordering.{eq_by_cmp}
use Rattle.std.proofs.lemmas.Bool.{cases_Bool}
use Rattle.std.proofs.lemmas.List.{take_all}
use Rattle.std.proofs.lemmas.List.Folds.{list_all-map, list_all_at, list_all_more}
use Rattle.std.proofs.lemmas.List.Sorted.{IsPermutation-map, list_any-IsPermutation}
use Rattle.rbac_sets.specs.Name.{is_name}
use Rattle.rbac_sets.specs.NameOrder.{name_total, name_exact}
use Rattle.rbac_sets.specs.Sets.{Bytes, Names, name_cmp, empty, contains, insert, from_list}
use Rattle.rbac_sets.specs.declared.refusal.Refusal.{Refusal}
use Rattle.rbac_sets.specs.declared.refusal.Refusal.TheVariants.{BadName}
use Rattle.rbac_sets.proofs.SetLaws.{contains-from_list, contains-insert, tie_Decides, same_set, from_list_push}
use Rattle.role_json.specs.Fields.{name, name_set}

-- the texts behind references
abbrev pub texts_of_refs : List (Bor (List ℕ)) → List (List ℕ)
texts_of_refs refs = map (λ text. text.now) refs

-- the set of the first `i` texts, which are all valid names
pub record HasFirst (texts : List (Bor (List ℕ))) (i : ℕ) (made : Names) : Type 0 where
  pub all_names : list_all (λ (text : Bor (List ℕ)). is_name text.now) (take i texts) ≡ true
  pub made_set : made ≡ from_list (texts_of_refs (take i texts))

pub HasFirst-none : (texts : List (Bor (List ℕ))) (made : Names) → made ≡ empty → HasFirst texts 0 made
unfolding from_list
HasFirst-none texts made e = record { all_names = refl; made_set = e }

-- inserting a member again changes nothing
pub insert_known : (s : Names) (x : List ℕ) → contains s x ≡ true → insert s x ≡ s
insert_known s x known = same_set name_total name_exact (insert s x) s (λ y. contains-insert name_total s x y ∙ by y (eq_by_cmp name_cmp y x) refl)
  where
    by : (y : List ℕ) (b : Bool) → eq_by_cmp name_cmp y x ≡ b → (b || contains s y) ≡ contains s y
    by y true e = let same : y ≡ x = (tie_Decides name_total name_exact y x).0 e in rw same (sym known)
    by y false e = refl

take_more : (texts : List (Bor (List ℕ))) (i : ℕ) (d : Bor (List ℕ)) → i < length texts → texts_of_refs (take (suc i) texts) ≡ texts_of_refs (take i texts) ++ (get_or texts i d).now ∷ []
take_more [] i d h = absurd (omega arith)
take_more (t ∷ ts) zero d h = refl
take_more (t ∷ ts) (suc i) d h = ap (λ (z : List (List ℕ)). t.now ∷ z) (take_more ts i d (omega (arith, h)))

named : (text made : List ℕ) → name text ≡ Ok made → (is_name text ≡ true) × (text ≡ made)
unfolding name
named text made e =
    elim (cases_Bool (is_name text)) [
      | inl good ↦ (good, (let r = rw good at e in cc))
      | inr bad ↦ let r = rw bad at e in absurd (let f : ⊥ = cc in f)
    ]

-- one more name was inserted
pub HasFirst-put : (texts : List (Bor (List ℕ))) (i : ℕ) (d : Bor (List ℕ)) (made new : Names) (x : List ℕ) → i < length texts → name (get_or texts i d).now ≡ Ok x
    → HasFirst texts i made → new ≡ insert made x → HasFirst texts (i + 1) new
HasFirst-put texts i d made new x h is has put =
    let (good, same) = named (get_or texts i d).now x is in
    record {
      all_names = list_all_more (λ (text : Bor (List ℕ)). is_name text.now) texts i d h ∙ rw (has.all_names, good) refl;
      made_set = put ∙ rw (has.made_set, ← same) (sym (from_list_push name_total name_exact (texts_of_refs (take i texts)) (get_or texts i d).now))
          ∙ ap from_list (sym (take_more texts i d h)) ∙ rw (add-one i) refl;
    }

-- one more name was there already
pub HasFirst-known : (texts : List (Bor (List ℕ))) (i : ℕ) (d : Bor (List ℕ)) (made new : Names) (x : List ℕ) → i < length texts → name (get_or texts i d).now ≡ Ok x
    → HasFirst texts i made → contains made x ≡ true → new ≡ made → HasFirst texts (i + 1) new
HasFirst-known texts i d made new x h is has known kept = HasFirst-put texts i d made new x h is has (kept ∙ sym (insert_known made x known))

-- all were inserted
pub HasFirst-all : (texts : List (Bor (List ℕ))) (i : ℕ) (made : Names) → length texts ≤ i → HasFirst texts i made → name_set (texts_of_refs texts) ≡ Ok made
unfolding name_set
HasFirst-all texts i made h has =
    let all : list_all is_name (texts_of_refs texts) ≡ true = list_all-map is_name (λ (text : Bor (List ℕ)). text.now) texts ∙ rw (take_all i texts h) at has.all_names in
    rw (all, has.made_set, take_all i texts h) refl

-- one is not a valid name
pub HasFirst-bad : (texts : List (Bor (List ℕ))) (i : ℕ) (d : Bor (List ℕ)) (refusal : Refusal) → i < length texts → name (get_or texts i d).now ≡ Err refusal
    → name_set (texts_of_refs texts) ≡ Err refusal
unfolding name name_set
HasFirst-bad texts i d refusal h is =
    elim (cases_Bool (is_name (get_or texts i d).now)) [
      | inl good ↦ let r = rw good at is in absurd (let f : ⊥ = cc in f)
      | inr bad ↦
          let some : list_all is_name (texts_of_refs texts) ≡ false =
          list_all-map is_name (λ (text : Bor (List ℕ)). text.now) texts ∙ list_all_at (λ (text : Bor (List ℕ)). is_name text.now) texts i d h bad in
          let told : BadName ≡ refusal = let r = rw bad at is in cc in
          rw (some, told) refl
    ]

pub ruleset name_set_steps = (HasFirst-none, HasFirst-put, HasFirst-known, HasFirst-all, HasFirst-bad)

-- ---- in another order

-- all pass if and only if none fails
all_by_any : (p : Bytes → Bool) (xs : List Bytes) → list_all p xs ≡ not (list_any (λ x. not (p x)) xs)
all_by_any p [] = refl
all_by_any p (x ∷ xs) = step (list_all p xs) (list_any (λ y. not (p y)) xs) (all_by_any p xs) (p x)
  where
    step : (all fails : Bool) → all ≡ not fails → (b : Bool) → (b && all) ≡ not (not b || fails)
    step all fails same true = same
    step all fails same false = refl

list_all-IsPermutation : (p : Bytes → Bool) (xs ys : List Bytes) → IsPermutation xs ys → list_all p xs ≡ list_all p ys
list_all-IsPermutation p xs ys same = all_by_any p xs ∙ ap not (list_any-IsPermutation (λ x. not (p x)) xs ys same) ∙ sym (all_by_any p ys)

from_list-IsPermutation : (xs ys : List Bytes) → IsPermutation xs ys → from_list {R = name_cmp} xs ≡ from_list ys
from_list-IsPermutation xs ys same = same_set name_total name_exact (from_list xs) (from_list ys)
    (λ y. contains-from_list name_total xs y ∙ list_any-IsPermutation (eq_by_cmp name_cmp y) xs ys same ∙ sym (contains-from_list name_total ys y))

-- the set of the names is the same in any order
pub name_set-IsPermutation : (texts others : List (Bor Bytes)) → IsPermutation texts others → name_set (texts_of_refs texts) ≡ name_set (texts_of_refs others)
unfolding name_set
name_set-IsPermutation texts others same =
    let moved = IsPermutation-map (λ text. text.now) texts others same in
    rw (list_all-IsPermutation is_name _ _ moved, from_list-IsPermutation _ _ moved) refl

pub ruleset sorted_steps = (name_set-IsPermutation)
