use Rattle.std.proofs.Common.{◌∙◌, ap, refl, length, take}
use Rattle.short_text.specs.Front.{first_bytes}
use Rattle.short_text.proofs.Storages.{first_bytes-append, is_text, take-length}
use Rattle.short_text.proofs.short_text.ShortText.new.Goals as goal

pub invariant_of-result : goal.invariant_of-result
invariant_of-result c =
    let text = c.args.text.now in
    is_text _ text (ap (take (length text)) c.padded.ensures ∙ take-length text _) refl (ap (first_bytes 8) c.padded.ensures ∙ first_bytes-append 8 _ text) c.requires c.utf8.text

pub invariant_of-result-then-len-le-MIDDLE : goal.invariant_of-result-then-len-le-MIDDLE
invariant_of-result-then-len-le-MIDDLE c =
    let text = c.args.text.now in
    let bytes = c.in_ok-bytes.ensures.ok ∙ c.padded-then-len-le-MIDDLE.ensures in
    is_text _ text (ap (take (length text)) bytes ∙ take-length text _) refl c.front_of-front.ensures c.requires c.utf8.text

pub invariant_of-result-2 : goal.invariant_of-result-2
invariant_of-result-2 c =
    let text = c.args.text.now in
    let bytes = c.in_ok-bytes-2.ensures.ok ∙ c.padded-2.ensures in
    is_text _ text (ap (take (length text)) bytes ∙ take-length text _) refl c.front_of-front.ensures c.requires c.utf8.text
