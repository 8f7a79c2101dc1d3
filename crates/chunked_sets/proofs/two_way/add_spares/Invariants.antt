use Rattle.std.proofs.Common.{◌≤◌, ◌-◌, ◌*◌, vec_len}
use Rattle.chunked_sets.proofs.two_way.add_spares.Given as goal

abbrev pub invariant-loop-alloc : goal.invariant-loop-alloc
invariant-loop-alloc l = vec_len l.initial.spares ≤ vec_len l.spares

abbrev pub decreases-loop-alloc : goal.decreases-loop-alloc
decreases-loop-alloc l = l.count * 3 - vec_len l.spares
