use Rattle.std.proofs.Common.{ap, ◌∙◌}
use Rattle.rbac_sets.specs.Sets.{members, from_list}
use Rattle.rbac_sets.proofs.InOrder.{members-sorted}
use Rattle.chunked_sets.proofs.chunked_set.ChunkedSet.of_sorted.Goals as goal

pub returns-clause-ok : goal.returns-clause-ok
returns-clause-ok g c = ap (λ l. members (from_list {R = g.K.Ord.cmp} l)) c.in_ok-chunks.ensures.ok ∙ members-sorted g.met.K.Ord.total c.args.entries.items c.requires
