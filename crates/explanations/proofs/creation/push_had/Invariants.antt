use Rattle.std.proofs.Common.{◌≡◌, ◌++◌, take}
use Rattle.explanations.specs.private.Found.{had_members}
use Rattle.explanations.proofs.creation.push_had.Given as goal

abbrev pub invariant-loop-member : goal.invariant-loop-member
invariant-loop-member l = l.pairs.items ≡ l.initial.pairs.items ++ had_members l.order.edges l.roles (take l.member-index l.members)
