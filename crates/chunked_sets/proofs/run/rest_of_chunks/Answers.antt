use Rattle.std.proofs.Common.{◌≡◌, ◌-◌, ◌++◌, length, drop, ap, sym, ◌∙◌, arith}
use Rattle.chunked_sets.specs.Chunks.{entries_of}
use Rattle.chunked_sets.proofs.Skipping.{skipped_on}
use Rattle.chunked_sets.proofs.run.rest_of_chunks.Goals as goal

pub loop-chunk-preserved : goal.loop-chunk-preserved
loop-chunk-preserved g c =
    let chunk = c.in-Some.chunk.now in
    let others = c.in-Some.others.now in
    let last = c.args.last.now in
    let size : c.len-left.result ≡ length chunk.items = omega (arith, c.len-left.ensures, chunk.ok.0) in
    let same : c.len.result ≡ length chunk.items = omega (arith, c.len.ensures, chunk.ok.0) in
    ap (λ n. drop (c.loop-chunk.left - n) (entries_of others ++ last)) size
    ∙ skipped_on chunk others last c.loop-chunk.left (omega (arith, same, c.if-left-len.false))
    ∙ ap (λ chunks. drop c.loop-chunk.left (entries_of chunks ++ last)) (sym c.in-Some.ensures.cases.0)
    ∙ c.loop-chunk.invariant
