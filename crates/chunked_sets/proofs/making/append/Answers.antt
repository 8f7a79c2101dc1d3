use Rattle.std.proofs.Common.{arith}
use Rattle.chunked_sets.proofs.Appending.{appended}
use Rattle.chunked_sets.proofs.making.append.Goals as goal

pub returns-then-len-lt-FILLED-clause-ok : goal.returns-then-len-lt-FILLED-clause-ok
returns-then-len-lt-FILLED-clause-ok g c =
    appended c.args.chunks.now.items _ c.index_mut.result.now c.push.new.self c.args.entry (omega
    (arith, c.args.chunks.now.ok.0, c.len-count.ensures, c.if-count-gt0.true)) c.index_mut.ensures.value (rw c.unwrap.ensures at c.push.ensures.items)
