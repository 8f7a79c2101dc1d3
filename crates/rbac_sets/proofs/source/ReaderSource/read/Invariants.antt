-- An attempt that a signal interrupts consumes no byte.
use Rattle.std.proofs.Common.{◌≡◌}
use Rattle.std.specs.Io.KnownBytes.{Keeps}
use Rattle.rbac_sets.proofs.source.ReaderSource.read.Given as goal

abbrev pub invariant-loop : goal.invariant-loop
invariant-loop g l =
    Keeps (g.R.Read.remaining l.initial.self.inner) (g.R.Read.remaining l.self.inner) × (l.self.reads ≡ l.initial.self.reads) × (l.self.failures ≡ l.initial.self.failures)
