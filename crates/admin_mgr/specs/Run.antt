-- A list of commands, one after the other: a refused command leaves the state as it was.
use Rattle.std.specs.Prelude.{if◌then◌else◌, List, [], ◌∷◌, Option, is_none}
use Rattle.rbac_sets.specs.declared.command.Command.{Command}
use Rattle.rbac_sets.specs.declared.command.Command.TheVariants.{ImportAssignments}
use Rattle.rbac_sets.specs.declared.refusal.Refusal.{Refusal}
use Rattle.admin_mgr.specs.RbacState.{RbacState}
use Rattle.admin_mgr.specs.Assignment.{Tally, tally_of, no_tally, import_verdicts}
use Rattle.admin_mgr.specs.After.{after}
use Rattle.admin_mgr.specs.Verdict.{verdict}

-- the state after the command was accepted or refused
unfoldable pub next : RbacState → Command → RbacState
next S command = if is_none (verdict S command) then after S command else S

-- the state after each command was accepted or refused, in this order
unfoldable pub run : RbacState → List Command → RbacState
run S [] = S
run S (command ∷ commands) = run (next S command) commands

-- the verdict on each command, in this order
unfoldable pub verdicts : RbacState → List Command → List (Option Refusal)
verdicts S [] = []
verdicts S (command ∷ commands) = verdict S command ∷ verdicts (next S command) commands

-- what is reported of an accepted command: only an import has anything to report
unfoldable pub tally : RbacState → Command → Tally
tally S (ImportAssignments pairs) = tally_of (import_verdicts S pairs.items)
tally S _ = no_tally
