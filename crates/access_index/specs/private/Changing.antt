-- The rows that an index keeps, after changes.
use Rattle.std.specs.Prelude.{◌≡◌, false, not, ◌&&◌, ◌||◌, List, [], ◌∷◌}
use Rattle.rbac_sets.specs.Sets.{Bytes, Pair}
use Rattle.rbac_sets.specs.declared.row.Change.{Change}
use Rattle.rbac_sets.specs.declared.row.Change.TheVariants.{Put, Take}
use Rattle.admin_mgr.specs.Changes.{same_row}
use Rattle.access_index.specs.Index.{Rows, is_activated, is_assigned, is_granted, is_junior}

-- no row has the role, be it assigned, activated, granted something, a senior or a junior, and no dynamic set bars it
pub record IsNowhere (rows : Rows) (role : Bytes) : Type 0 where
  pub assigned : (user : Bytes) → is_assigned rows user role ≡ false
  pub activated : (session : Bytes) → is_activated rows session role ≡ false
  pub granted : (permission : Pair) → is_granted rows permission role ≡ false
  pub senior : (junior : Bytes) → is_junior rows role junior ≡ false
  pub junior : (senior : Bytes) → is_junior rows senior role ≡ false
  pub barred : rows.barred role ≡ false
  pub barred_by : (set : Bytes) → rows.barred_by set role ≡ false

-- the rows after one change; the barred roles are given
abbrev pub rows_by : Rows → Change → Rows
rows_by rows (Put row) = record rows { stored = λ other. rows.stored other || same_row row other }
rows_by rows (Take row) = record rows { stored = λ other. rows.stored other && not (same_row row other) }

-- the rows after the changes, one after the other
abbrev pub rows_after : Rows → List Change → Rows
rows_after rows [] = rows
rows_after rows (change ∷ changes) = rows_after (rows_by rows change) changes
