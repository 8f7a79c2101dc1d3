-- Who a kind of separation of duty applies to: users with their assignments, or sessions with their activated roles.
use Rattle.std.specs.Prelude.{List, map}
use Rattle.rbac_sets.specs.Sets.{Bytes, Pair, members, pair_cmp}
use Rattle.rbac_sets.specs.SortedSet.{set_of}
use Rattle.chunked_sets.specs.Entries.{entries_left}
use Rattle.admin_mgr.specs.declared.separation_of_duty.holders.Runs.{Runs}
use Rattle.admin_mgr.specs.declared.separation_of_duty.holders.Holders.{Holders}
use Rattle.admin_mgr.specs.declared.separation_of_duty.holders.Holders.TheVariants.{Users, Sessions}
use Rattle.admin_mgr.specs.declared.separation_of_duty.SeparationOfDuty.{SeparationOfDuty}
use Rattle.admin_mgr.specs.declared.separation_of_duty.SeparationOfDuty.TheVariants.{Static, Dynamic}
use Rattle.admin_mgr.specs.RbacState.{RbacState}
use Rattle.admin_mgr.specs.private.HolderRoles.{run_of}

-- for each user its assignments, or for each session its activated roles, as pairs (holder, role)
abbrev pub runs_of : SeparationOfDuty → RbacState → List (List Pair)
runs_of Static S = map (run_of S.assignments) (members S.users)
runs_of Dynamic S = map (λ (session : Pair). run_of S.active session.0) (members S.sessions)

-- the names that the iterator has still to yield
abbrev pub holders_left : Holders → List Bytes
holders_left (Users users) = entries_left users
holders_left (Sessions sessions) = map (λ (session : Pair). session.0) (entries_left sessions)

-- the runs that the iterator has still to yield
abbrev pub runs_left : Runs → List (List Pair)
runs_left runs = map (run_of (set_of pair_cmp runs.pairs.now)) (holders_left runs.holders)
