use Rattle.std.proofs.Common.{sym, ◌∙◌}
use Rattle.rbac_sets.specs.Sets.{pair_cmp}
use Rattle.rbac_sets.specs.SortedSet.{set_of}
use Rattle.admin_mgr.proofs.Imports.RecordLaws.{new_to_added}
use Rattle.admin_mgr.proofs.planning.importing.Imported.take.Goals as goal

pub assign-requires-clause-absent : goal.assign-requires-clause-absent
assign-requires-clause-absent c =
    (new_to_added c.args.state.now.facts (set_of pair_cmp c.args.self.now.added) (c.args.user.now, c.args.role.now) (sym c.in_ok-refusal.ensures ∙ c.in-None.is)).1
