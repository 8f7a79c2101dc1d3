use Rattle.std.proofs.Common.{ap, ◌∙◌, arith}
use Rattle.short_text.proofs.Fronts.{eight_bytes}
use Rattle.short_text.specs.Front.{first_bytes}
use Rattle.short_text.proofs.front.front_of.Goals as goal

pub returns : goal.returns
returns c = c.from_be_bytes.ensures ∙ (omega arith) ∙ eight_bytes c.as_bytes-bytes.result.now ∙ ap (first_bytes 8) c.as_bytes-bytes.ensures.value
