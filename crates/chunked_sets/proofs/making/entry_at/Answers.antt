use Rattle.std.proofs.Common.{arith}
use Rattle.chunked_sets.proofs.Appending.{there_in_all}
use Rattle.chunked_sets.proofs.making.entry_at.Goals as goal

pub returns-then-left-len : goal.returns-then-left-len
returns-then-left-len g c =
    there_in_all c.args.chunks.now c.loop-chunk.chunk-index c.chunk-item.result c.loop-chunk.left c.args.index c.index.result.now c.loop-chunk-test.true c.chunk-item.is
    (omega (arith, c.chunk-item.result.ok.0, c.len.ensures, c.if-left-len.true)) c.loop-chunk.invariant c.index.ensures
