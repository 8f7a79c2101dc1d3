-- The set of the names that stand in a text one after the other.
use Rattle.std.proofs.Common.{◌≡◌, ◌<◌, ◌≤◌, ◌+◌, ◌∙◌, ℕ, Bool, true, false, List, [], ◌∷◌, ◌++◌, length, take, drop, get_or, min, refl, sym, ap, arith, add-one, drop-cons}
use Rattle.std.specs.List.{All}
use Rattle.std.specs.Ordering.{eq_by_cmp}
use Rattle.std.specs.Prelude.{◌||◌}
use Rattle.std.proofs.lemmas.List.{append_assoc, append-nil, drop_all, drop_min, take_min}
use Rattle.std.proofs.lemmas.List.Elements.{All-contains, All-nil, All-push, All-same, Contains-append_right}
use Rattle.rbac_sets.specs.NameOrder.{name_exact, name_total}
use Rattle.rbac_sets.specs.Sets.{Bytes, Names, contains, empty, from_list, insert, name_cmp}
use Rattle.rbac_sets.proofs.SetLaws.{contains-insert, from_list_push, same_set, tie_Decides}
use Rattle.role_lines.specs.Decision.{IsNameText}
use Rattle.rbac_c.specs.Conflicts.{divided}

-- inserting a member again changes nothing
insert_known : (s : Names) (x : List ℕ) → contains s x ≡ true → insert s x ≡ s
insert_known s x known = same_set name_total name_exact (insert s x) s (λ y. contains-insert name_total s x y ∙ by y (eq_by_cmp name_cmp y x) refl)
  where
    by : (y : List ℕ) (b : Bool) → eq_by_cmp name_cmp y x ≡ b → (b || contains s y) ≡ contains s y
    by y true e = let same : y ≡ x = (tie_Decides name_total name_exact y x).0 e in rw same (sym known)
    by y false e = refl

-- the set has the first names, and the others are to be found in the rest of the text
pub record HasOwned (text lengths : List ℕ) (i : ℕ) (rest : List ℕ) (made : Names) : Type 0 where
  pub first : List Bytes
  pub divided_is : divided text lengths ≡ first ++ divided rest (drop i lengths)
  pub are_names : All IsNameText first
  pub made_is : made ≡ from_list first

module _ (text lengths : List ℕ) where
  pub none_owned : (made : Names) → made ≡ empty → HasOwned text lengths 0 text made
  unfolding from_list
  none_owned made is = record { first = []; divided_is = refl; are_names = All-nil IsNameText; made_is = is }

  -- the next part of the text, which its length cuts off, or all that is left
  module _ (i d : ℕ) (rest : List ℕ) (made : Names) (h : HasOwned text lengths i rest made) (more : i < length lengths)
      (cut : ℕ) (next others : List ℕ) (cut_is : cut ≡ min (get_or lengths i d) (length rest)) (front : next ≡ take cut rest) (back : others ≡ drop cut rest) where
    abbrev n : ℕ
    n = get_or lengths i d

    next_is : next ≡ take n rest
    next_is = front ∙ ap (λ k. take k rest) cut_is ∙ take_min n rest

    others_are : others ≡ drop n rest
    others_are = back ∙ ap (λ k. drop k rest) cut_is ∙ drop_min n rest

    divided_there : divided text lengths ≡ h.first ++ next ∷ divided others (drop (i + 1) lengths)
    divided_there =
        h.divided_is ∙ ap (λ others. h.first ++ divided rest others) (drop-cons lengths i d more) ∙ rw (add-one i, next_is, others_are) refl

    -- one more name is in the set
    pub one_owned : (new : Names) → IsNameText next → new ≡ insert made next → HasOwned text lengths (i + 1) others new
    one_owned new named is = record {
      first = h.first ++ next ∷ [];
      divided_is = divided_there ∙ sym (append_assoc h.first (next ∷ []) (divided others (drop (i + 1) lengths)));
      are_names = All-push IsNameText h.first next h.are_names named;
      made_is = is ∙ ap (λ set. insert set next) h.made_is ∙ sym (from_list_push name_total name_exact h.first next);
    }

    -- it was there already
    pub known_owned : (new : Names) → IsNameText next → contains made next ≡ true → new ≡ made → HasOwned text lengths (i + 1) others new
    known_owned new named known is = one_owned new named (is ∙ sym (insert_known made next known))

    -- it is no name
    pub not_all_names : ¬ (IsNameText next) → ¬ (All IsNameText (divided text lengths))
    not_all_names bad all = bad (All-contains IsNameText (divided text lengths) next all
        (rw divided_there (Contains-append_right h.first (next ∷ divided others (drop (i + 1) lengths)) next (0, omega arith, refl))))

  pub all_owned : (i : ℕ) (rest : List ℕ) (made : Names) → HasOwned text lengths i rest made → length lengths ≤ i
      → (made ≡ from_list (divided text lengths)) × All IsNameText (divided text lengths)
  all_owned i rest made h end =
      let are : divided text lengths ≡ h.first = h.divided_is ∙ ap (λ others. h.first ++ divided rest others) (drop_all i lengths end) ∙ append-nil h.first in
      (h.made_is ∙ ap from_list (sym are), All-same IsNameText (divided text lengths) h.first are h.are_names)
