use Rattle.std.proofs.Common.{Some, refl, ltb-true, ap, sym, ◌∙◌}
use Rattle.std.specs.Cmp.Lexicographic.{bytes_decides}
use Rattle.std.proofs.lemmas.Option.{slice_get_read}
use Rattle.bit_tables.proofs.number_table.is_at.Goals as goal

pub returns-in-Some-Some : goal.returns-in-Some-Some
returns-in-Some-Some c same =
    let l = c.in-Some-Some.ensures.lookup in
    slice_get_read c.args.names.now _ c.args.number c.in-Some-Some.field-0.now refl (ltb-true _ _ (sym l.0)) l.1
    ∙ ap Some (c.in-Some-Some.field-0-is ∙ ap Some ((bytes_decides c.in-Some-Some.other c.args.name.now).0 (sym c.eq.ensures ∙ same)))
