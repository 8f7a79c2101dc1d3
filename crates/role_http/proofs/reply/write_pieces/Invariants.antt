use Rattle.std.proofs.Common.{◌≡◌, ◌++◌, ◌≤◌, List, ℕ, drop}
use Rattle.std.specs.Io.KnownBytes.{Appends}
use Rattle.role_http.specs.private.PieceReferences.{all_of}
use Rattle.role_http.proofs.reply.write_pieces.Given as goal

abbrev pub invariant-loop-piece : goal.invariant-loop-piece
invariant-loop-piece g l = record {
  written : (done : List ℕ) × Appends (g.W.Sink.written l.initial.sink) (g.W.Sink.written l.sink) done × (all_of l.pieces ≡ done ++ all_of (drop l.piece-index l.pieces));
  failed : g.W.Sink.failed l.initial.sink ≤ g.W.Sink.failed l.sink;
  idle : g.W.Sink.idle l.initial.sink ≤ g.W.Sink.idle l.sink;
}
