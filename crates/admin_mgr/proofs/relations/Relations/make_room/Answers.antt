use Rattle.std.proofs.Common.{sym, ◌∙◌}
use Rattle.admin_mgr.proofs.PlanRows.RoomLaws.{takes_need_none}
use Rattle.admin_mgr.proofs.relations.Relations.make_room.Goals as goal

pub returns-then-are_takes-clause-room : goal.returns-then-are_takes-clause-room
returns-then-are_takes-clause-room c = takes_need_none c.args.changes.now _ (sym c.are_takes.ensures ∙ c.if-are_takes.true)
