use Rattle.std.specs.Prelude.{IsTrue, take}
use Rattle.rbac_sets.specs.Named.{are_named}
use Rattle.admin_mgr.proofs.plan.Plan.recall_names.Given as goal

abbrev pub invariant-loop-change : goal.invariant-loop-change
invariant-loop-change l = IsTrue (are_named (take l.change-index l.self.changes.items))
