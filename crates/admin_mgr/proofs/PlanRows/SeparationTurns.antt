-- The rows that a command on a separation of duty set inserts and removes, for static and dynamic sets alike.
use Rattle.std.proofs.Common.{◌≡◌, ◌≢◌, ℕ, true, false, List, [], ◌∷◌, sym, ◌∙◌, ap, subst}
use Rattle.std.specs.Prelude.{not, Some, None, is_some}
use Rattle.std.proofs.lemmas.Bool.{and_parts, true≢false, false_from_ne_true}
use Rattle.std.proofs.Math.Bool.{or-false}
use Rattle.rbac_sets.specs.Sets.{Bytes, Pair, Pairs, Names, Cardinality, Cardinalities, same_name, contains, members, insert, remove, retain, union, IsDisjoint}
use Rattle.rbac_sets.specs.NameOrder.{pair_total, pair_exact}
use Rattle.rbac_sets.specs.declared.row.Row.{Row}
use Rattle.rbac_sets.specs.declared.row.Row.TheVariants.{PairRow, SetRow}
use Rattle.rbac_sets.specs.declared.row.Change.{Change}
use Rattle.rbac_sets.specs.declared.row.Change.TheVariants.{Put, Take}
use Rattle.admin_mgr.specs.RbacState.{RbacState, Separation, has_set, cardinality_of}
use Rattle.admin_mgr.specs.private.HolderRoles.{run_of}
use Rattle.admin_mgr.specs.After.{paired, with_set, with_member, without_member, with_cardinality, without_set}
use Rattle.admin_mgr.specs.Changes.{Turns, is_taken, is_put, same_row}
use Rattle.admin_mgr.specs.Good.{IsSeparation}
use Rattle.admin_mgr.specs.private.PlanChanges.{pair_row, take_all, put_all}
use Rattle.admin_mgr.proofs.PlanRows.CommitLaws.{same_row-is}
use Rattle.admin_mgr.proofs.Verdicts.KeepLaws.{cardinality_there}
use Rattle.admin_mgr.proofs.PlanRows.RunLaws.{IsSetOf, steps_take_one, steps_put_one, steps_take_some, steps_put_set, put_all-map}
use Rattle.admin_mgr.proofs.PlanRows.SetRows.{set_row}
use Rattle.admin_mgr.proofs.StateAfter.SetRowLaws.{no_cardinality, paired_apart, members_paired, found_cardinality-remove, no_cardinality_left, with_other_cardinality}
use Rattle.admin_mgr.proofs.PlanRows.StepLaws.Way.{taking, putting}
use Rattle.admin_mgr.proofs.PlanRows.StepLaws.{Way, Steps, steps_append, steps_to}
use Rattle.admin_mgr.proofs.PlanRows.TurnLaws.{AreApart, turns_taking, turns_putting, turns_both}
use Rattle.admin_mgr.proofs.Verdicts.AuthorizationLaws.{is_some_cardinality}

-- The separation of duty sets of one kind, static or dynamic: `get` reads them, `set` replaces them, and `pairs` and `sets`
-- are the kinds of the rows of their members and of their cardinalities.
pub record IsKindOfSets (pairs sets : ℕ) (get : RbacState → Separation) (set : RbacState → Separation → RbacState) : Type 0 where
  pub member_rows : IsSetOf (pair_row pairs) (λ S. (get S).members) (λ S (s : Pairs). set S (record (get S) { members = s }))
  pub cardinality_rows : IsSetOf (set_row sets) (λ S. (get S).cardinalities) (λ S (s : Cardinalities). set S (record (get S) { cardinalities = s }))
  pub got : (S : RbacState) (s : Separation) → get (set S s) ≡ s
  pub again : (S : RbacState) (s t : Separation) → set (set S s) t ≡ set S t

-- a set without a cardinality is not there
pub no_set_without_cardinality : (s : Separation) (name : Bytes) → cardinality_of s name ≡ None → has_set s name ≡ true → ⊥
no_set_without_cardinality s name untold there = true≢false (sym there ∙ sym (is_some_cardinality s name) ∙ ap is_some untold)

-- two different cardinalities of one set have different rows
rows_apart : (sets : ℕ) (name : Bytes) (before n : ℕ) → before ≢ n → AreApart (Take (SetRow sets name before) ∷ []) (Put (SetRow sets name n) ∷ [])
unfolding is_taken is_put
rows_apart sets name before n other row = false_from_ne_true _ (λ h.
    let parts = and_parts _ _ h in
    let one = same_row-is (SetRow sets name before) row (sym (or-false (same_row (SetRow sets name before) row)) ∙ parts.0) in
    let two = same_row-is (SetRow sets name n) row (sym (or-false (same_row (SetRow sets name n) row)) ∙ parts.1) in
    other (number (sym one ∙ two)))
  where
    number_of : Row → ℕ
    number_of (SetRow k x m) = m
    number_of _ = 0

    number : SetRow sets name before ≡ SetRow sets name n → before ≡ n
    number same = ap number_of same

module _ {pairs sets : ℕ} {get : RbacState → Separation} {set : RbacState → Separation → RbacState} (kind : IsKindOfSets pairs sets get set) (S : RbacState) where
  -- if the sets are replaced twice, the steps lead to the state with the last ones
  led : {way : Way} {changes : List Change} (s : Separation) (f : Separation → Separation) → Steps way (set S s) changes (set (set S s) (f (get (set S s)))) → Steps way (set S s) changes (set S (f s))
  led s f steps = steps_to steps (kind.again S s (f (get (set S s))) ∙ ap (λ t. set S (f t)) (kind.got S s))

  -- the row of one cardinality is removed
  steps_take_cardinality : (s : Separation) (x : Cardinality) → contains s.cardinalities x ≡ true → Steps taking (set S s) (Take (set_row sets x) ∷ []) (set S (record s { cardinalities = remove s.cardinalities x }))
  steps_take_cardinality s x there = led s (λ t. record t { cardinalities = remove t.cardinalities x })
      (steps_take_one kind.cardinality_rows (set S s) x (ap (λ t. contains t.cardinalities x) (kind.got S s) ∙ there))

  -- the row of one cardinality is inserted
  steps_put_cardinality : (s : Separation) (x : Cardinality) → contains s.cardinalities x ≡ false → Steps putting (set S s) (Put (set_row sets x) ∷ []) (set S (record s { cardinalities = insert s.cardinalities x }))
  steps_put_cardinality s x absent = led s (λ t. record t { cardinalities = insert t.cardinalities x })
      (steps_put_one kind.cardinality_rows (set S s) x (ap (λ t. contains t.cardinalities x) (kind.got S s) ∙ absent))

  -- the row of one member is removed
  steps_take_member : (s : Separation) (x : Pair) → contains s.members x ≡ true → Steps taking (set S s) (Take (pair_row pairs x) ∷ []) (set S (record s { members = remove s.members x }))
  steps_take_member s x there = led s (λ t. record t { members = remove t.members x })
      (steps_take_one kind.member_rows (set S s) x (ap (λ t. contains t.members x) (kind.got S s) ∙ there))

  -- the row of one member is inserted
  steps_put_member : (s : Separation) (x : Pair) → contains s.members x ≡ false → Steps putting (set S s) (Put (pair_row pairs x) ∷ []) (set S (record s { members = insert s.members x }))
  steps_put_member s x absent = led s (λ t. record t { members = insert t.members x })
      (steps_put_one kind.member_rows (set S s) x (ap (λ t. contains t.members x) (kind.got S s) ∙ absent))

  -- the rows of the members of one set are removed
  steps_take_members : (s : Separation) (name : Bytes) → Steps taking (set S s) (take_all (pair_row pairs) (run_of s.members name)) (set S (record s { members = retain s.members (λ pair. not (same_name pair.0 name)) }))
  steps_take_members s name = led s (λ t. record t { members = retain t.members (λ pair. not (same_name pair.0 name)) })
      (subst (λ (t : Separation). Steps taking (set S s) (take_all (pair_row pairs) (run_of t.members name)) (set (set S s) (record (get (set S s)) { members = retain (get (set S s)).members (λ pair. not (same_name pair.0 name)) })))
      (kind.got S s) (steps_take_some kind.member_rows pair_total pair_exact (set S s) (λ (pair : Pair). same_name pair.0 name)))

  -- the rows of new members are inserted
  steps_put_members : (s : Separation) (more : Pairs) → IsDisjoint more s.members → Steps putting (set S s) (put_all (pair_row pairs) (members more)) (set S (record s { members = union s.members more }))
  steps_put_members s more apart = led s (λ t. record t { members = union t.members more })
      (steps_put_set kind.member_rows pair_total pair_exact (set S s) more (λ x new. ap (λ t. contains t.members x) (kind.got S s) ∙ apart x new))

  module _ (s : Separation) (name : Bytes) where
    -- one more member
    pub turns_add_member : (role : Bytes) → contains s.members (name, role) ≡ false → Turns (set S s) (Put (PairRow pairs name role) ∷ []) (set S (with_member s name role))
    turns_add_member role absent = turns_putting (steps_put_member s (name, role) absent)

    -- one member fewer
    pub turns_delete_member : (role : Bytes) → contains s.members (name, role) ≡ true → Turns (set S s) (Take (PairRow pairs name role) ∷ []) (set S (without_member s name role))
    turns_delete_member role there = turns_taking (steps_take_member s (name, role) there)

    module _ (all_roles : Names) (formed : IsSeparation all_roles s) where
      -- a new set with its members
      pub turns_create_set : (roles : Names) (n : ℕ) → has_set s name ≡ false →
          Turns (set S s) (Put (SetRow sets name n) ∷ put_all (λ role. PairRow pairs name role) (members roles)) (set S (with_set s name roles n))
      turns_create_set roles n absent =
          let numbered : Separation = record s { cardinalities = insert s.cardinalities (name, n) } in
          let rows = ap (put_all (pair_row pairs)) (members_paired name roles) ∙ put_all-map (pair_row pairs) (λ role. (name, role)) (members roles) in
          turns_putting (steps_append
          (steps_put_cardinality s (name, n) (no_cardinality s name absent n))
          (subst (λ changes. Steps putting (set S numbered) changes (set S (with_set s name roles n))) rows (steps_put_members numbered (paired name roles) (paired_apart s name absent all_roles formed roles))))

      -- another cardinality replaces that of a set
      pub turns_set_cardinality : (before n : ℕ) → cardinality_of s name ≡ Some before → before ≢ n →
          Turns (set S s) (Take (SetRow sets name before) ∷ Put (SetRow sets name n) ∷ []) (set S (with_cardinality s name n))
      turns_set_cardinality before n told other =
          let rest : Separation = record s { cardinalities = remove s.cardinalities (name, before) } in
          turns_both
          (steps_take_cardinality s (name, before) (cardinality_there s name before told))
          (steps_to (steps_put_cardinality rest (name, n) (no_cardinality_left s all_roles formed name before told n)) (ap (set S) (sym (with_other_cardinality s all_roles formed name before told n))))
          (rows_apart sets name before n other)

      -- a set is removed with its members
      pub turns_delete_set : (n : ℕ) → cardinality_of s name ≡ Some n →
          Turns (set S s) (Take (SetRow sets name n) ∷ take_all (pair_row pairs) (run_of s.members name)) (set S (without_set s name))
      turns_delete_set n told =
          let rest : Separation = record s { cardinalities = remove s.cardinalities (name, n) } in
          turns_taking (steps_append
          (steps_take_cardinality s (name, n) (cardinality_there s name n told))
          (steps_to (steps_take_members rest name) (ap (λ c. set S (record (without_set s name) { cardinalities = c })) (sym (found_cardinality-remove s all_roles formed name n told)))))
