use Rattle.std.proofs.Common.{◌∙◌, sym}
use Rattle.role_http.proofs.Fields.{has_field-here, has_field-later, has_field-none}
use Rattle.role_http.proofs.head_checks.has_field.Goals as goal

pub returns-then-is_name : goal.returns-then-is_name
returns-then-is_name c =
    sym (c.loop-field.invariant ∙ has_field-here c.args.name.now c.args.bytes.now c.args.fields.now c.loop-field.field-index _ c.loop-field-test.true (rw c.of.ensures at (sym c.is_name.ensures ∙ c.if-is_name.true)))

pub loop-field-preserved : goal.loop-field-preserved
loop-field-preserved c =
    c.loop-field.invariant ∙ has_field-later c.args.name.now c.args.bytes.now c.args.fields.now c.loop-field.field-index _ c.loop-field-test.true (rw c.of.ensures at (sym c.is_name.ensures ∙ c.if-is_name.false))

pub returns : goal.returns
returns c = sym (c.loop-field.invariant ∙ has_field-none c.args.name.now c.args.bytes.now c.args.fields.now c.loop-field.field-index c.loop-field-test.false)
