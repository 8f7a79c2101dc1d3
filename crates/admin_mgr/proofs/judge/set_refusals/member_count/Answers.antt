use Rattle.std.proofs.Common.{◌∙◌, ap, length}
use Rattle.rbac_sets.specs.Sets.{pair_cmp}
use Rattle.rbac_sets.specs.SortedSet.{set_of}
use Rattle.role_order.proofs.Runs.{run-count}
use Rattle.admin_mgr.proofs.judge.set_refusals.member_count.Goals as goal

pub returns : goal.returns
returns g c = c.len.ensures ∙ ap length c.entries_with_first.ensures ∙ run-count (set_of pair_cmp (g.P.EntrySet.stored c.args.members.now)) c.args.set.now
