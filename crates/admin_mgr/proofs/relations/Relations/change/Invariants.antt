use Rattle.std.proofs.Common.{◌≡◌}
use Rattle.admin_mgr.specs.RowUpdates.{HasRoom}
use Rattle.admin_mgr.specs.private.OneRow.{after_changes, AreFree}
use Rattle.admin_mgr.specs.PlanEffect.{order_of}
use Rattle.admin_mgr.proofs.relations.Relations.change.Given as goal

abbrev pub invariant-loop-change : goal.invariant-loop-change
invariant-loop-change l = record {
  facts : after_changes l.self.facts l.change-iterator.rest.items ≡ after_changes l.fn.self.facts l.fn.changes.items;
  free : AreFree l.self.facts l.change-iterator.rest.items;
  room : HasRoom l.self.room l.change-iterator.rest.items;
  order : order_of l.self ≡ order_of l.fn.self;
}
