-- The changes of a plan, made one by one, give the state that the plan leads to.
use Rattle.std.proofs.Common.{◌≡◌, Bool, true, false, not, ◌&&◌, ◌||◌, List, [], ◌∷◌, refl, sym, ◌∙◌, ap, subst}
use Rattle.std.specs.Prelude.{nat_eq, Some, None}
use Rattle.std.proofs.lemmas.Bool.{eqb-true, eq-eqb, and_parts, and_from, or_left, or_right, true≢false, false_from_ne_true}
use Rattle.rbac_sets.specs.Sets.{Pairs}
use Rattle.rbac_sets.specs.NameOrder.{name_total, name_exact, pair_total, pair_exact, triple_total, triple_exact, cardinality_total, cardinality_exact}
use Rattle.rbac_sets.proofs.SetLaws.{tie_Decides}
use Rattle.rbac_sets.specs.declared.row.Row.{Row}
use Rattle.rbac_sets.specs.declared.row.Row.TheVariants.{NameRow, PairRow, GrantRow, SetRow, LockedRow}
use Rattle.rbac_sets.specs.declared.row.Change.{Change}
use Rattle.rbac_sets.specs.declared.row.Change.TheVariants.{Put, Take}
use Rattle.role_order.specs.Planned.{changed, Plan as OrderPlan}
use Rattle.admin_mgr.specs.declared.plan.Plan.{Plan}
use Rattle.admin_mgr.specs.RbacState.{RbacState}
use Rattle.admin_mgr.specs.Rows.{has_row}
use Rattle.admin_mgr.specs.Changes.{same_row, is_put, is_taken, IsOnce, Turns}
use Rattle.admin_mgr.specs.RowUpdates.{with_edges}
use Rattle.admin_mgr.specs.private.OneRow.{is_plain, with_row, without_row, after_change, after_changes, AreFree}
use Rattle.admin_mgr.specs.PlanEffect.{TurnsEdges, LeadsTo}
use Rattle.admin_mgr.proofs.PlanRows.RowLaws.{plain_determine}
use Rattle.admin_mgr.proofs.PlanRows.ChangeLaws.{has_row-with, has_row-without, has_row-changes}
use Rattle.admin_mgr.proofs.PlanRows.StepLaws.{has_row-with_edges}

-- ---- equal rows

-- a row is the same as itself
pub same_row-self : (row : Row) → same_row row row ≡ true
same_row-self (NameRow k a) = and_from _ _ (eq-eqb k k refl) ((tie_Decides name_total name_exact a a).1 refl)
same_row-self (PairRow k a b) = and_from _ _ (eq-eqb k k refl) ((tie_Decides pair_total pair_exact (a, b) (a, b)).1 refl)
same_row-self (GrantRow a b c) = (tie_Decides triple_total triple_exact (a, b, c) (a, b, c)).1 refl
same_row-self (SetRow k a n) = and_from _ _ (eq-eqb k k refl) ((tie_Decides cardinality_total cardinality_exact (a, n) (a, n)).1 refl)
same_row-self (LockedRow a) = (tie_Decides name_total name_exact a a).1 refl

-- rows that the test calls the same are equal
pub same_row-is : (row other : Row) → same_row row other ≡ true → other ≡ row
same_row-is (NameRow k a) (NameRow l x) h =
    let parts = and_parts (nat_eq k l) _ h in
    λ i. NameRow (sym (eqb-true k l parts.0) i) ((tie_Decides name_total name_exact x a).0 parts.1 i)
same_row-is (PairRow k a b) (PairRow l x y) h =
    let parts = and_parts (nat_eq k l) _ h in
    let pair = (tie_Decides pair_total pair_exact (x, y) (a, b)).0 parts.1 in
    λ i. PairRow (sym (eqb-true k l parts.0) i) (pair i).0 (pair i).1
same_row-is (GrantRow a b c) (GrantRow x y z) h =
    let triple = (tie_Decides triple_total triple_exact (x, y, z) (a, b, c)).0 h in
    λ i. GrantRow (triple i).0 (triple i).1 (triple i).2
same_row-is (SetRow k a m) (SetRow l x n) h =
    let parts = and_parts (nat_eq k l) _ h in
    let entry = (tie_Decides cardinality_total cardinality_exact (x, n) (a, m)).0 parts.1 in
    λ i. SetRow (sym (eqb-true k l parts.0) i) (entry i).0 (entry i).1
same_row-is (LockedRow a) (LockedRow x) h = ap LockedRow ((tie_Decides name_total name_exact x a).0 h)
same_row-is row other h = cc

-- ---- what changes of rows leave unchanged

-- a change of a row leaves the edges unchanged
pub edges_stay : (S : RbacState) (change : Change) → (after_change S change).edges ≡ S.edges
unfolding with_row without_row
edges_stay S (Put (NameRow k a)) = refl
edges_stay S (Put _) = refl
edges_stay S (Take (NameRow k a)) = refl
edges_stay S (Take _) = refl

-- and the version
pub version_stays : (S : RbacState) (change : Change) → (after_change S change).version ≡ S.version
unfolding with_row without_row
version_stays S (Put (NameRow k a)) = refl
version_stays S (Put _) = refl
version_stays S (Take (NameRow k a)) = refl
version_stays S (Take _) = refl

-- a list of changes leaves the edges unchanged
pub edges-changes : (S : RbacState) (changes : List Change) → (after_changes S changes).edges ≡ S.edges
unfolding after_changes
edges-changes S [] = refl
edges-changes S (change ∷ changes) = edges-changes (after_change S change) changes ∙ edges_stay S change

-- and the version
pub version-changes : (S : RbacState) (changes : List Change) → (after_changes S changes).version ≡ S.version
unfolding after_changes
version-changes S [] = refl
version-changes S (change ∷ changes) = version-changes (after_change S change) changes ∙ version_stays S change

-- ---- rows that are absent when they are inserted

-- two tests don't both hold if the first excludes the second
by_test : (b c : Bool) → (b ≡ true → c ≡ false) → (b && c) ≡ false
by_test true c h = h refl
by_test false c h = refl

-- an absent row is still absent after another row is inserted
still_absent : (S : RbacState) (row other : Row) → is_plain other ≡ true → has_row S other ≡ false → (other ≡ row → ⊥) → has_row (with_row S row) other ≡ false
still_absent S row other plain absent differ =
    has_row-with S row other plain ∙ (λ i. absent i || false_from_ne_true (same_row row other) (λ same. differ (same_row-is row other same)) i)

-- rows that are absent at first, and inserted once, are absent when their turn comes
free_put : (S : RbacState) (changes : List Change) → ((row : Row) → is_plain row ≡ true → is_put changes row ≡ true → has_row S row ≡ false) → IsOnce changes → AreFree S changes
unfolding is_put
free_put S [] absent once = tt
free_put S (Take row ∷ changes) absent once = (
  tt,
  free_put (without_row S row) changes (λ other plain put. has_row-without S row other plain ∙ ap (λ b. b && not (same_row row other)) (absent other plain put)) once.1,
)
free_put S (Put row ∷ changes) absent once = (
  by_test (is_plain row) (has_row S row) (λ plain. absent row plain (or_left _ _ (same_row-self row))),
  free_put (with_row S row) changes (λ other plain put. still_absent S row other plain (absent other plain (or_right (same_row row other) _ put))
      (λ is. true≢false (sym (subst (λ r. is_put changes r ≡ true) is put) ∙ once.0))) once.1,
)

-- ---- the state that they lead to

module _ (S T : RbacState) (changes : List Change) (turns : Turns S changes T) where
  -- each inserted row is absent when its turn comes
  pub free : AreFree S changes
  free = free_put S changes (λ row plain put. turns.absent row put) turns.once

  -- no row is both removed and inserted
  apart : (row : Row) → (is_taken changes row && is_put changes row) ≡ false
  apart row = false_from_ne_true _ (λ both. let parts = and_parts (is_taken changes row) _ both in true≢false (sym (turns.there row parts.0) ∙ turns.absent row parts.1))

  -- after the changes, each row is there exactly if it is in the state that they lead to
  rows : (row : Row) → is_plain row ≡ true → has_row (after_changes S changes) row ≡ has_row T row
  rows row plain = has_row-changes S changes row plain (apart row) ∙ sym (turns.rows row)

  -- if the edges stay the same, the changes give that state
  pub led_to : S.edges ≡ T.edges → after_changes S changes ≡ T
  led_to edges = plain_determine (after_changes S changes) T (version-changes S changes ∙ turns.version) (edges-changes S changes ∙ edges) rows

  -- otherwise they give it together with its edges
  pub led_to_edges : (edges : Pairs) → edges ≡ T.edges → with_edges (after_changes S changes) edges ≡ T
  led_to_edges edges is =
      plain_determine (with_edges (after_changes S changes) edges) T (version-changes S changes ∙ turns.version) is
      (λ row plain. has_row-with_edges (after_changes S changes) edges row plain ∙ rows row plain)

-- ---- a whole plan

-- a plan without a plan of the hierarchy gives its state by its changes alone
pub leads : (S T : RbacState) (plan : Plan) → LeadsTo S plan T → plan.order ≡ None → (X : RbacState) → X ≡ after_changes S plan.changes.items → X ≡ T
leads S T plan to none X made = made ∙ led_to S T plan.changes.items to.rows (subst (λ o. TurnsEdges S o T) none to.edges)

-- otherwise it gives it by its changes and then those of the hierarchy
pub leads_edges : (S T : RbacState) (plan : Plan) (order : OrderPlan) → LeadsTo S plan T → plan.order ≡ Some order →
    (X : RbacState) → X ≡ after_changes S plan.changes.items → with_edges X (changed X.edges order) ≡ T
leads_edges S T plan order to some X made =
    let edges = ap (λ Y. Y.edges) made ∙ edges-changes S plan.changes.items in
    (λ i. with_edges (made i) (changed (edges i) order))
    ∙ led_to_edges S T plan.changes.items to.rows (changed S.edges order) (subst (λ o. TurnsEdges S o T) some to.edges).1
