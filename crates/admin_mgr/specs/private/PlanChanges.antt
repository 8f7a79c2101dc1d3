-- The changes of a plan, row by row: lists of rows to take or to put, the rows of sessions that end, locks, and the row of an
-- edge with the closure pairs that change with it.
use Rattle.std.specs.Prelude.{ℕ, Bool, true, false, not, List, [], ◌∷◌, map, filter, if◌then◌else◌}
use Rattle.std.specs.List.{flat_map}
use Rattle.rbac_sets.specs.Sets.{Bytes, Pair, Triple, Pairs, contains, members}
use Rattle.rbac_sets.specs.declared.row.Row.{Row}
use Rattle.rbac_sets.specs.declared.row.Row.TheVariants.{PairRow, GrantRow, LockedRow}
use Rattle.rbac_sets.specs.RowKinds.{inheritance_kind, closure_pair_kind, session_kind, activated_role_kind}
use Rattle.rbac_sets.specs.declared.row.Change.{Change}
use Rattle.rbac_sets.specs.declared.row.Change.TheVariants.{Put, Take}
use Rattle.admin_mgr.specs.RbacState.{RbacState}
use Rattle.admin_mgr.specs.private.HolderRoles.{run_of}

-- whether the change takes a row
abbrev pub is_take : Change → Bool
is_take (Put row) = false
is_take (Take row) = true

-- the row of a pair, of this kind
abbrev pub pair_row : ℕ → Pair → Row
pair_row kind pair = PairRow kind pair.0 pair.1

-- the row of a grant
abbrev pub grant_row : Triple → Row
grant_row grant = GrantRow grant.0 grant.1 grant.2

-- takes the row of each entry
abbrev pub take_all : {K : Type 0} → (K → Row) → List K → List Change
take_all row entries = map (λ entry. Take (row entry)) entries

-- puts the row of each entry
abbrev pub put_all : {K : Type 0} → (K → Row) → List K → List Change
put_all row entries = map (λ entry. Put (row entry)) entries

-- takes the row of the session, and the rows of the roles that were activated in it
abbrev pub session_rows : RbacState → Pair → List Change
session_rows S session = Take (PairRow session_kind session.0 session.1) ∷ take_all (pair_row activated_role_kind) (run_of S.active session.0)

-- takes the rows of the sessions that don't go on, one session after the other
abbrev pub ended_rows : RbacState → (Pair → Bool) → List Change
ended_rows S goes_on = flat_map (session_rows S) (filter (λ session. not (goes_on session)) (members S.sessions))

-- takes the lock of the user, if there is one
abbrev pub lock_rows : RbacState → Bytes → List Change
lock_rows S user = if contains S.locked user then Take (LockedRow user) ∷ [] else []

-- puts the lock of the user, unless there is one
abbrev pub new_lock_rows : RbacState → Bytes → List Change
new_lock_rows S user = if contains S.locked user then [] else Put (LockedRow user) ∷ []

-- puts the row of an edge, and the rows of these pairs, which the closure gains by it
abbrev pub order_puts : Bytes → Bytes → Pairs → List Change
order_puts asc desc pairs = Put (PairRow inheritance_kind asc desc) ∷ put_all (pair_row closure_pair_kind) (members pairs)

-- takes the row of an edge, and the rows of these pairs, which the closure loses by it
abbrev pub order_takes : Bytes → Bytes → Pairs → List Change
order_takes asc desc pairs = Take (PairRow inheritance_kind asc desc) ∷ take_all (pair_row closure_pair_kind) (members pairs)
