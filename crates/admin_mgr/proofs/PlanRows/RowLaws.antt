-- The rows determine the state.
use Rattle.std.proofs.Common.{◌≡◌, true, refl}
use Rattle.rbac_sets.specs.declared.row.Row.{Row}
use Rattle.rbac_sets.specs.declared.row.Row.TheVariants.{NameRow, PairRow, GrantRow, SetRow, LockedRow}
use Rattle.rbac_sets.specs.declared.row.TheConstants.Row.{USER, ROLE, OBJECT, PERMISSION, ASSIGNMENT, INHERITANCE, STATIC_MEMBER, DYNAMIC_MEMBER, SESSION, ACTIVATED_ROLE, STATIC_CARDINALITY, DYNAMIC_CARDINALITY}
use Rattle.rbac_sets.specs.NameOrder.{name_total, name_exact, pair_total, pair_exact, triple_total, triple_exact, cardinality_total, cardinality_exact}
use Rattle.rbac_sets.proofs.SetLaws.{same_set}
use Rattle.admin_mgr.specs.RbacState.{RbacState}
use Rattle.admin_mgr.specs.Rows.{has_row}
use Rattle.admin_mgr.specs.private.OneRow.{is_plain}
use Rattle.admin_mgr.specs.Laws.{RowsDetermine}

-- states of one version with the same edges, and otherwise with the same rows, are equal
pub plain_determine : (S T : RbacState) → S.version ≡ T.version → S.edges ≡ T.edges → ((row : Row) → is_plain row ≡ true → has_row S row ≡ has_row T row) → S ≡ T
unfolding has_row
plain_determine S T version edges h =
    let users = same_set name_total name_exact S.users T.users (λ x. h (NameRow USER x) refl) in
    let roles = same_set name_total name_exact S.roles T.roles (λ x. h (NameRow ROLE x) refl) in
    let objects = same_set name_total name_exact S.objects T.objects (λ x. h (NameRow OBJECT x) refl) in
    let permissions = same_set pair_total pair_exact S.permissions T.permissions (λ x. h (PairRow PERMISSION x.0 x.1) refl) in
    let assignments = same_set pair_total pair_exact S.assignments T.assignments (λ x. h (PairRow ASSIGNMENT x.0 x.1) refl) in
    let ssd_members = same_set pair_total pair_exact S.ssd.members T.ssd.members (λ x. h (PairRow STATIC_MEMBER x.0 x.1) refl) in
    let dsd_members = same_set pair_total pair_exact S.dsd.members T.dsd.members (λ x. h (PairRow DYNAMIC_MEMBER x.0 x.1) refl) in
    let sessions = same_set pair_total pair_exact S.sessions T.sessions (λ x. h (PairRow SESSION x.0 x.1) refl) in
    let active = same_set pair_total pair_exact S.active T.active (λ x. h (PairRow ACTIVATED_ROLE x.0 x.1) refl) in
    let grants = same_set triple_total triple_exact S.grants T.grants (λ x. h (GrantRow x.0 x.1 x.2) refl) in
    let ssd_numbers = same_set cardinality_total cardinality_exact S.ssd.cardinalities T.ssd.cardinalities (λ x. h (SetRow STATIC_CARDINALITY x.0 x.1) refl) in
    let dsd_numbers = same_set cardinality_total cardinality_exact S.dsd.cardinalities T.dsd.cardinalities (λ x. h (SetRow DYNAMIC_CARDINALITY x.0 x.1) refl) in
    let locked = same_set name_total name_exact S.locked T.locked (λ x. h (LockedRow x) refl) in
    λ i. record {
      version = version i;
      users = users i;
      locked = locked i;
      roles = roles i;
      objects = objects i;
      permissions = permissions i;
      assignments = assignments i;
      grants = grants i;
      edges = edges i;
      sessions = sessions i;
      active = active i;
      ssd = record { members = ssd_members i; cardinalities = ssd_numbers i };
      dsd = record { members = dsd_members i; cardinalities = dsd_numbers i };
    }

-- states of one version with the same rows are equal
pub rows_determine : RowsDetermine
unfolding has_row
rows_determine S T version h =
    plain_determine S T version (same_set pair_total pair_exact S.edges T.edges (λ x. h (PairRow INHERITANCE x.0 x.1))) (λ row plain. h row)
