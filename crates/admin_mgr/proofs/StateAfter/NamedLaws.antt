-- Valid names stay valid.
use Rattle.std.proofs.Common.{List, [], ◌∷◌, sym, ◌∙◌, inl, inr, subst}
use Rattle.std.specs.Prelude.{IsTrue}
use Rattle.std.specs.List.{list_all}
use Rattle.std.proofs.lemmas.Bool.{and_parts, or_cases, true≢false}
use Rattle.rbac_sets.specs.Named.{is_named, are_named}
use Rattle.rbac_sets.specs.declared.row.Row.{Row}
use Rattle.rbac_sets.specs.declared.row.Change.{Change}
use Rattle.rbac_sets.specs.declared.row.Change.TheVariants.{Put, Take}
use Rattle.admin_mgr.specs.RbacState.{RbacState, empty_state}
use Rattle.admin_mgr.specs.Changes.{is_put}
use Rattle.admin_mgr.specs.RowChecks.{AreRowsOf}
use Rattle.admin_mgr.specs.StoredSets.{is_among}
use Rattle.admin_mgr.specs.StateNames.{AreNamed, NamedTurns}
use Rattle.admin_mgr.proofs.PlanRows.CommitLaws.{same_row-is}
use Rattle.admin_mgr.proofs.StateAfter.EmptyLaws.{empty_has_no_row}

-- a row that changes with valid names insert has valid names
put_named : (changes : List Change) → IsTrue (are_named changes) → (row : Row) → IsTrue (is_put changes row) → IsTrue (is_named row)
unfolding is_put
put_named [] named row put = absurd (true≢false (sym put))
put_named (Take first ∷ changes) named row put = put_named changes (and_parts (is_named first) _ named).1 row put
put_named (Put first ∷ changes) named row put =
    let parts = and_parts (is_named first) _ named in
    elim (or_cases _ _ put) [
      | inl same ↦ subst (λ r. IsTrue (is_named r)) (sym (same_row-is first row same)) parts.0
      | inr later ↦ put_named changes parts.1 row later
    ]

-- changes with valid names lead to a state with valid names
pub named_turns : NamedTurns
named_turns S T changes turns named changes_named row there = elim (or_cases _ _ (sym (turns.rows row) ∙ there)) [
  | inl old ↦ named row (and_parts _ _ old).0
  | inr new ↦ put_named changes changes_named row new
]

-- a row among rows with valid names has valid names
among_named : (rows : List Row) → IsTrue (list_all is_named rows) → (row : Row) → IsTrue (is_among rows row) → IsTrue (is_named row)
among_named [] named row among = absurd (true≢false (sym among))
among_named (first ∷ rows) named row among =
    let parts = and_parts (is_named first) _ named in
    elim (or_cases _ _ among) [
      | inl same ↦ subst (λ r. IsTrue (is_named r)) (sym (same_row-is first row same)) parts.0
      | inr later ↦ among_named rows parts.1 row later
    ]

-- the state of rows with valid names has valid names
pub named_rows : (S : RbacState) (rows : List Row) → AreRowsOf S rows → IsTrue (list_all is_named rows) → AreNamed S
named_rows S rows are named row there = among_named rows named row (sym (are.rows_are row) ∙ there)

-- an empty state has no name
pub empty_named : (version : _) → AreNamed (empty_state version)
empty_named version row there = absurd (true≢false (sym there ∙ empty_has_no_row version row))
