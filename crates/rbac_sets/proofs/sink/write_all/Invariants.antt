use Rattle.std.proofs.Common.{◌≡◌, ℕ, List, ◌++◌, ◌≤◌, length}
use Rattle.std.specs.Io.KnownBytes.{Appends}
use Rattle.rbac_sets.proofs.sink.write_all.Given as goal

abbrev pub invariant-loop-rest : goal.invariant-loop-rest
invariant-loop-rest g l = (done : List ℕ) × Appends (g.W.Sink.written l.initial.sink) (g.W.Sink.written l.sink) done × (l.piece ≡ done ++ l.rest) × (g.W.Sink.failed l.initial.sink ≤ g.W.Sink.failed l.sink) × (g.W.Sink.idle l.initial.sink ≤ g.W.Sink.idle l.sink)

abbrev pub decreases-loop-rest : goal.decreases-loop-rest
decreases-loop-rest g l = length l.rest
