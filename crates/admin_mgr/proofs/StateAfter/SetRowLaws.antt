-- Which rows of a separation of duty set are there before a command on it inserts or removes some.
use Rattle.std.proofs.Common.{◌≡◌, ◌≢◌, ℕ, true, false, not, ◌&&◌, List, [], ◌∷◌, map, refl, sym, ◌∙◌, ap, subst, inl, inr}
use Rattle.std.specs.Prelude.{IsTrue, Option, Some, None, is_some}
use Rattle.std.specs.List.{AllByRecursion}
use Rattle.std.specs.List.Sorted.{IsStrictlySortedBy}
use Rattle.std.specs.declared.cmp.Ordering.TheVariants.{Less}
use Rattle.std.specs.Ordering.{ordering_then}
use Rattle.std.specs.Cmp.{tied_itself}
use Rattle.std.proofs.lemmas.Bool.{and_parts, and_from, not-true, true≢false, false_from_ne_true}
use Rattle.rbac_sets.specs.Sets.{Bytes, Pair, Pairs, Names, Cardinality, Cardinalities, name_cmp, pair_cmp, same_name, contains, members, insert, remove, image, IsDisjoint}
use Rattle.rbac_sets.specs.NameOrder.{name_total, name_exact, pair_total, pair_exact, cardinality_total, cardinality_exact}
use Rattle.rbac_sets.proofs.SetLaws.{tie_Decides, contains-retain, contains-remove, contains-insert-Decides, any-Decides, same_members}
use Rattle.rbac_sets.proofs.Members.{members-rise}
use Rattle.rbac_sets.proofs.InOrder.{members-sorted}
use Rattle.role_order.proofs.Members.{same_or_other}
use Rattle.admin_mgr.specs.RbacState.{Separation, has_set, cardinality_of}
use Rattle.admin_mgr.specs.After.{paired, without_first, without_cardinality, with_cardinality}
use Rattle.admin_mgr.specs.Good.{IsSeparation}
use Rattle.admin_mgr.proofs.Verdicts.KeepLaws.{cardinality_there}
use Rattle.admin_mgr.proofs.Verdicts.ViolationLaws.{paired-Decides}
use Rattle.admin_mgr.proofs.Verdicts.AuthorizationLaws.{is_some_cardinality}

-- ---- the names of sets

-- a set that has a cardinality is there
pub has_set-from : (separation : Separation) (name : Bytes) (n : ℕ) → IsTrue (contains separation.cardinalities (name, n)) → has_set separation name ≡ true
has_set-from separation name n there =
    (any-Decides cardinality_total cardinality_exact (λ (entry : Cardinality). same_name entry.0 name) separation.cardinalities).1
    ((name, n), there, (tie_Decides name_total name_exact name name).1 refl)

-- a set that is there has a cardinality
pub numbered_set : (separation : Separation) (name : Bytes) → has_set separation name ≡ true → (n : ℕ) × IsTrue (contains separation.cardinalities (name, n))
numbered_set separation name there =
    let found = (any-Decides cardinality_total cardinality_exact (λ (entry : Cardinality). same_name entry.0 name) separation.cardinalities).0 there in
    (found.0.1, subst (λ x. IsTrue (contains separation.cardinalities (x, found.0.1))) ((tie_Decides name_total name_exact found.0.0 name).0 found.2) found.1)

-- ---- a new set

module _ (separation : Separation) (name : Bytes) (absent : has_set separation name ≡ false) where
  -- a set that is not there has no cardinality
  pub no_cardinality : (n : ℕ) → contains separation.cardinalities (name, n) ≡ false
  no_cardinality n = false_from_ne_true _ (λ there. true≢false (sym (has_set-from separation name n there) ∙ absent))

  module _ (all_roles : Names) (formed : IsSeparation all_roles separation) where
    -- nor a member
    pub no_members : (role : Bytes) → contains separation.members (name, role) ≡ false
    no_members role = false_from_ne_true _ (λ there. true≢false (sym (formed.members name role there).0 ∙ absent))

    -- so none of its pairs is there yet
    pub paired_apart : (roles : Names) → IsDisjoint (paired name roles) separation.members
    paired_apart roles pair new =
        subst (λ first. contains separation.members (first, pair.1) ≡ false) (sym ((paired-Decides name roles pair.0 pair.1).0 new).0) (no_members pair.1)

-- a name that precedes others still precedes them with the same first name in front of each
paired_above : (name x : Bytes) (ys : List Bytes) → AllByRecursion (λ y. name_cmp x y ≡ Less) ys → AllByRecursion (λ p. pair_cmp (name, x) p ≡ Less) (map (λ y. (name, y)) ys)
paired_above name x [] above = tt
paired_above name x (y ∷ ys) above = (ap (λ first. ordering_then first (name_cmp x y)) (tied_itself name_total name) ∙ above.0, paired_above name x ys above.1)

-- names in order stay in order with the same first name in front of each
paired_rise : (name : Bytes) (xs : List Bytes) → IsStrictlySortedBy name_cmp xs → IsStrictlySortedBy pair_cmp (map (λ x. (name, x)) xs)
unfolding IsStrictlySortedBy
paired_rise name [] rise = tt
paired_rise name (x ∷ xs) rise = (paired_above name x xs rise.0, paired_rise name xs rise.1)

-- the pairs of a name with others are in the order of the others
pub members_paired : (name : Bytes) (roles : Names) → members (paired name roles) ≡ map (λ role. (name, role)) (members roles)
unfolding image
members_paired name roles = members-sorted pair_total (map (λ role. (name, role)) (members roles)) (paired_rise name (members roles) (members-rise name_cmp roles))

-- ---- the cardinality of one set

-- each set has one cardinality
abbrev pub IsNumberedOnce : Cardinalities → Type 0
IsNumberedOnce cardinalities = (name : Bytes) (n other : ℕ) → IsTrue (contains cardinalities (name, n)) → IsTrue (contains cardinalities (name, other)) → n ≡ other

-- the cardinalities of the other sets are those that are not of this one
pub other_cardinalities : (name : Bytes) (cardinalities : Cardinalities) (x : Cardinality) →
    contains (without_cardinality name cardinalities) x ≡ (contains cardinalities x && not (same_name x.0 name))
other_cardinalities name cardinalities x = contains-retain cardinality_total cardinality_exact cardinalities (λ (entry : Cardinality). not (same_name entry.0 name)) x

-- so each of them is there and has another name
pub other_cardinality : (name : Bytes) (cardinalities : Cardinalities) (x : Cardinality) → IsTrue (contains (without_cardinality name cardinalities) x) → IsTrue (contains cardinalities x) × (x.0 ≢ name)
other_cardinality name cardinalities x h =
    let parts = and_parts _ _ (sym (other_cardinalities name cardinalities x) ∙ h) in
    (parts.0, λ same. true≢false (sym ((tie_Decides name_total name_exact x.0 name).1 same) ∙ not-true _ parts.1))

-- and each that is there and has another name is one of them
pub other_cardinality-from : (name : Bytes) (cardinalities : Cardinalities) (x : Cardinality) → IsTrue (contains cardinalities x) → x.0 ≢ name → IsTrue (contains (without_cardinality name cardinalities) x)
other_cardinality-from name cardinalities x there apart =
    other_cardinalities name cardinalities x ∙ and_from _ _ there (ap not (false_from_ne_true _ (λ same. apart ((tie_Decides name_total name_exact x.0 name).0 same))))

module _ (separation : Separation) (all_roles : Names) (formed : IsSeparation all_roles separation) (name : Bytes) (before : ℕ) (there : IsTrue (contains separation.cardinalities (name, before))) where
  -- an entry of this set is its cardinality
  of_this_set : (x : Cardinality) → IsTrue (contains separation.cardinalities x) → x.0 ≡ name → x ≡ (name, before)
  of_this_set x has same =
      let number = formed.one_cardinality name x.1 before (subst (λ first. IsTrue (contains separation.cardinalities (first, x.1))) same has) there in
      λ i. (same i, number i)

  -- removing the cardinalities of a set removes the one that it has
  pub without_cardinality-remove : without_cardinality name separation.cardinalities ≡ remove separation.cardinalities (name, before)
  without_cardinality-remove = same_members cardinality_total cardinality_exact (without_cardinality name separation.cardinalities) (remove separation.cardinalities (name, before)) (λ x. (
    λ h. (let other = other_cardinality name separation.cardinalities x h in
        contains-remove cardinality_total separation.cardinalities (name, before) x
        ∙ and_from _ _ (ap not (false_from_ne_true _ (λ same. other.1 (ap (λ (c : Cardinality). c.0) ((tie_Decides cardinality_total cardinality_exact x (name, before)).0 same))))) other.0),
    λ h. (let parts = and_parts _ _ (sym (contains-remove cardinality_total separation.cardinalities (name, before) x) ∙ h) in
        other_cardinality-from name separation.cardinalities x parts.1 (λ same.
        true≢false (sym ((tie_Decides cardinality_total cardinality_exact x (name, before)).1 (of_this_set x parts.1 same)) ∙ not-true _ parts.0))),
  ))

  -- setting the cardinality that a set has changes nothing
  pub with_same_cardinality : with_cardinality separation name before ≡ separation
  with_same_cardinality =
      let others = without_cardinality name separation.cardinalities in
      let same = same_members cardinality_total cardinality_exact (insert others (name, before)) separation.cardinalities (λ x. (
        λ h. elim ((contains-insert-Decides cardinality_total cardinality_exact others (name, before) x).0 h) [
          | inl same ↦ subst (λ c. IsTrue (contains separation.cardinalities c)) (sym same) there
          | inr other ↦ (other_cardinality name separation.cardinalities x other).0
        ],
        λ h. (contains-insert-Decides cardinality_total cardinality_exact others (name, before) x).1 (elim (same_or_other x.0 name) [
          | inl same ↦ inl (of_this_set x h same)
          | inr apart ↦ inr (other_cardinality-from name separation.cardinalities x h apart)
        ]),
      )) in
      λ i. record separation { cardinalities = same i }

-- ---- the same, for the cardinality that `cardinality_of` gives

module _ (separation : Separation) (all_roles : Names) (formed : IsSeparation all_roles separation) (name : Bytes) (before : ℕ) (told : cardinality_of separation name ≡ Some before) where
  -- removing the cardinalities of a set removes this one
  pub found_cardinality-remove : without_cardinality name separation.cardinalities ≡ remove separation.cardinalities (name, before)
  found_cardinality-remove = without_cardinality-remove separation all_roles formed name before (cardinality_there separation name before told)

  -- nor has the set one after this one is removed
  pub no_cardinality_left : (n : ℕ) → contains (remove separation.cardinalities (name, before)) (name, n) ≡ false
  no_cardinality_left n = false_from_ne_true _ (λ h. (other_cardinality name separation.cardinalities (name, n) (subst (λ s. IsTrue (contains s (name, n))) (sym found_cardinality-remove) h)).1 refl)

  -- setting another cardinality removes the old one and inserts the new one
  pub with_other_cardinality : (n : ℕ) → with_cardinality separation name n ≡ record separation { cardinalities = insert (remove separation.cardinalities (name, before)) (name, n) }
  with_other_cardinality n = ap (λ s. record separation { cardinalities = insert s (name, n) }) found_cardinality-remove

  -- setting the same one changes nothing
  pub same_cardinality : (n : ℕ) → before ≡ n → with_cardinality separation name n ≡ separation
  same_cardinality n same = subst (λ k. with_cardinality separation name k ≡ separation) same (with_same_cardinality separation all_roles formed name before (cardinality_there separation name before told))

-- `cardinality_of` gives the cardinality of a set
pub found_cardinality : (separation : Separation) (all_roles : Names) → IsSeparation all_roles separation → (name : Bytes) (n : ℕ) → IsTrue (contains separation.cardinalities (name, n)) → cardinality_of separation name ≡ Some n
found_cardinality separation all_roles formed name n there =
    by (cardinality_of separation name) refl (is_some_cardinality separation name ∙ has_set-from separation name n there)
  where
    by : (o : Option ℕ) → cardinality_of separation name ≡ o → is_some o ≡ true → cardinality_of separation name ≡ Some n
    by None is h = cc
    by (Some k) is h = is ∙ ap Some (formed.one_cardinality name k n (cardinality_there separation name k is) there)

-- ---- the members of one set

-- the pairs of other names are those that begin with another name
pub contains-without_first : (pairs : Pairs) (name : Bytes) (pair : Pair) → contains (without_first name pairs) pair ≡ (contains pairs pair && not (same_name pair.0 name))
contains-without_first pairs name pair = contains-retain pair_total pair_exact pairs (λ (p : Pair). not (same_name p.0 name)) pair
