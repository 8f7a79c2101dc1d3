use Rattle.std.proofs.Common.{rules}
use Rattle.rbac_sets.proofs.Gaps.{below_last}
use Rattle.rbac_sets.proofs.removal.are_before.Goals as goal

pub returns-in-Some : goal.returns-in-Some
returns-in-Some g c = rw (c.is_lt.ensures, c.compare.ensures) (below_last g.met.K.Ord.total c.args.entries.now (g.P.Probe.entry c.args.probe) c.in-Some.last.now c.requires (search rules) (search rules))
