-- The rows that an import inserts.
use Rattle.std.proofs.Common.{◌≡◌, false, map, sym}
use Rattle.std.specs.declared.vec.Vec.{Vec}
use Rattle.std.specs.declared.alloc.Global.{Global}
use Rattle.rbac_sets.specs.Sets.{Pair, contains}
use Rattle.rbac_sets.specs.NameOrder.{pair_total, pair_exact}
use Rattle.rbac_sets.specs.declared.command.Command.TheVariants.{ImportAssignments}
use Rattle.admin_mgr.specs.RbacState.{RbacState}
use Rattle.admin_mgr.specs.After.{after}
use Rattle.admin_mgr.specs.Changes.{Turns}
use Rattle.admin_mgr.specs.Good.{IsGood}
use Rattle.admin_mgr.specs.private.ImportPlan.{accepted, put_assignment}
use Rattle.admin_mgr.proofs.Imports.ImportLaws.{accepted_new, accepted_distinct, after_import_puts}
use Rattle.admin_mgr.proofs.PlanRows.RunLaws.{all_of, steps_put_list}
use Rattle.admin_mgr.proofs.PlanRows.SetRows.{assignment_rows}
use Rattle.admin_mgr.proofs.PlanRows.StepLaws.{steps_to}
use Rattle.admin_mgr.proofs.PlanRows.TurnLaws.{turns_putting}

-- the rows of the assigned pairs are inserted, and nothing else changes
pub turns_import : (S : RbacState) → IsGood S → (pairs : Vec Pair Global) → Turns S (map put_assignment (accepted S pairs.items)) (after S (ImportAssignments pairs))
turns_import S good pairs = turns_putting (steps_to
    (steps_put_list assignment_rows pair_total pair_exact S (accepted S pairs.items) (accepted_distinct S good pairs.items)
    (all_of pair_total pair_exact (λ p. contains S.assignments p ≡ false) (accepted S pairs.items) (accepted_new S good pairs.items)))
    (sym (after_import_puts S good pairs)))
