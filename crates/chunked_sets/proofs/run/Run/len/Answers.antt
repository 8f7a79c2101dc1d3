use Rattle.std.proofs.Common.{arith}
use Rattle.chunked_sets.proofs.Parts.{counted_run}
use Rattle.chunked_sets.proofs.run.Run.len.Goals as goal

pub overflow_add-count-in-loop-chunk : goal.overflow_add-count-in-loop-chunk
overflow_add-count-in-loop-chunk g c =
    let r = c.self.inside in
    omega (arith, c.self.invariant, c.loop-chunk.invariant, counted_run r.first.now r.last.now r.middle.now c.loop-chunk.chunk-index c.chunk-item.result c.loop-chunk-test.true c.chunk-item.is)
