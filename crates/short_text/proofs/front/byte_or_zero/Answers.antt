use Rattle.std.proofs.Common.{sym, arith}
use Rattle.std.proofs.lemmas.List.{get_or_past}
use Rattle.short_text.proofs.front.byte_or_zero.Goals as goal

pub returns-else-place-bytes : goal.returns-else-place-bytes
returns-else-place-bytes c = sym (get_or_past c.args.bytes.now c.args.place 0 (omega arith))
