use Rattle.std.proofs.Common.{◌∙◌, refl, sym}
use Rattle.std.specs.Prelude.{option_map, codes}
use Rattle.std.proofs.lemmas.Bool.{and_parts}
use Rattle.role_http.specs.HeadChecks.{agrees, is_length}
use Rattle.role_http.proofs.Fields.{one_length-other, one_length-more, one_length-bad, one_length-end}
use Rattle.role_http.proofs.head_checks.one_length.Goals as goal
use Rattle.role_http.proofs.head_checks.one_length.Goals.{then-is_name+else-not-fits, else-is_name}

pub returns-then-not-fits-clause-err : goal.returns-then-not-fits-clause-err
returns-then-not-fits-clause-err c =
    c.loop-field.invariant.left
    ∙ one_length-bad (codes "content-length") c.args.bytes.now c.args.fields.now c.loop-field.field-index _ c.loop-field-test.true (option_map (λ value. value.now) c.loop-field.told)
    (rw c.of.ensures at (sym c.is_name.ensures ∙ c.if-is_name.true)) (rw c.of-value.ensures at (sym c.fits.ensures ∙ c.if-not-fits.true))

pub loop-field-preserved : goal.loop-field-preserved
loop-field-preserved c =
    elim c.if-is_name.branch [
      | then-is_name+else-not-fits w ↦
          let fine = and_parts (is_length w.of-value.result.now) (agrees (option_map (λ value. value.now) c.loop-field.told) w.of-value.result.now) (sym w.fits.ensures ∙ w.if-not-fits.false) in
          rw w.told-is (record {
            left = c.loop-field.invariant.left
                ∙ one_length-more (codes "content-length") c.args.bytes.now c.args.fields.now c.loop-field.field-index _ c.loop-field-test.true (option_map (λ value. value.now) c.loop-field.told)
                (rw c.of.ensures at (sym c.is_name.ensures ∙ w.if-is_name.true)) (rw w.of-value.ensures at fine.0) (rw w.of-value.ensures at fine.1) ∙ rw w.of-value.ensures refl;
            good = fine.0;
          })
      | else-is_name w ↦
          rw w.told-is (record {
            left = c.loop-field.invariant.left
                ∙ one_length-other (codes "content-length") c.args.bytes.now c.args.fields.now c.loop-field.field-index _ c.loop-field-test.true (option_map (λ value. value.now) c.loop-field.told)
                (rw c.of.ensures at (sym c.is_name.ensures ∙ w.if-is_name.false));
            good = c.loop-field.invariant.good;
          })
    ]

pub returns-clause-ok : goal.returns-clause-ok
returns-clause-ok c =
    c.loop-field.invariant.left ∙ one_length-end (codes "content-length") c.args.bytes.now c.args.fields.now c.loop-field.field-index (option_map (λ value. value.now) c.loop-field.told) c.loop-field-test.false
