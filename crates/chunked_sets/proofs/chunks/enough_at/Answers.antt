use Rattle.std.proofs.Common.{ℕ, ◌+◌, ◌*◌, ◌/◌, ◌<◌, length, arith, div-lt_iff_lt-mul}
use Rattle.chunked_sets.proofs.Rooms.{fewer_times, weight_low}
use Rattle.chunked_sets.proofs.chunks.enough_at.Goals as goal

pub returns-clause-least : goal.returns-clause-least
returns-clause-least g c =
    let width = c.args.width in
    let chunks = c.args.chunks.now in
    let all : ℕ = c.weight.result + c.args.count in
    let enough : ℕ = all / width + 1 in
    let above : all < enough * width = (div-lt_iff_lt-mul {k = width} {x = all} {y = enough} (omega (arith, c.requires.wide))).0 (omega arith) in
    let less : length chunks < enough = fewer_times (length chunks) enough width (omega (arith, above, weight_low width chunks, c.weight.ensures.weight)) in
    omega (arith, less)
