use Rattle.std.proofs.Common.{◌≡◌, Bool, true, false, ◌&&◌, refl, ap, sym, ◌∙◌}
use Rattle.std.specs.List.{list_all}
use Rattle.std.specs.Str.{is_utf8}
use Rattle.std.proofs.lemmas.Str.{is_utf8-from_IsUtf8}
use Rattle.rbac_sets.specs.Name.{has_name_length, is_printable}
use Rattle.rbac_sets.proofs.name.is_name.Goals as goal

between_true : (a b c : Bool) → a ≡ true → c ≡ true → b ≡ (a && (b && c))
between_true true true true a c = refl
between_true true true false a c = cc
between_true true false c a d = refl
between_true false b c a d = cc

pub returns : goal.returns
returns c =
    let text = c.args.text.now in
    let bytes = c.as_bytes-bytes.ensures.value in
    let fits : has_name_length text ≡ true = ap has_name_length (sym bytes) ∙ sym c.has_name_length.ensures ∙ c.if-not-has_name_length.false in
    c.is_printable.ensures ∙ ap (list_all is_printable) bytes ∙ between_true (has_name_length text) (list_all is_printable text) (is_utf8 text) fits (is_utf8-from_IsUtf8 text c.utf8.text)
