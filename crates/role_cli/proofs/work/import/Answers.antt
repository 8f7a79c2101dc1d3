use Rattle.std.proofs.Common.{◌∙◌, inl, inr, refl, subst, sym}
use Rattle.std.specs.Io.KnownBytes.{Appends}
use Rattle.rbac_sets.specs.declared.refusal.Refusal.TheVariants.{Store}
use Rattle.role_cli.specs.Environment.{IsReadOf}
use Rattle.role_cli.specs.Work.{WritesPart}
use Rattle.role_wire.proofs.Results.{if_err-then}
use Rattle.role_cli.proofs.Results.{on_ok-then}
use Rattle.role_cli.proofs.work.import.Goals as goal

-- The answer line was written.
pub returns-clause-ok : goal.returns-clause-ok
returns-clause-ok g c =
    let (pairs, answer, lists, performs, text) = c.in-Ok-imported.ensures.ok in
    let read = subst (IsReadOf (g.C.CsvFiles.csv_at c.args.files.now c.args.path.now)) (sym c.deref.ensures.value) c.in-Ok.ensures.text in
    on_ok-then c.say.result _ _ c.say.ensures.ok (λ appended. (
      c.deref.result.now,
      pairs,
      answer,
      read,
      lists,
      performs,
      subst (λ line. Appends (g.W.Sink.written c.args.out.now) (g.W.Sink.written c.say.new.out) line) (c.as_bytes.ensures.value ∙ text) appended,
    ))

-- It was not written whole.
pub returns-clause-err : goal.returns-clause-err
returns-clause-err g c =
    let (pairs, answer, lists, performs, text) = c.in-Ok-imported.ensures.ok in
    let read = subst (IsReadOf (g.C.CsvFiles.csv_at c.args.files.now c.args.path.now)) (sym c.deref.ensures.value) c.in-Ok.ensures.text in
    if_err-then c.say.result _ _ c.say.ensures.part (λ failure (is, has, part). inr (
      c.deref.result.now,
      pairs,
      Store,
      read,
      lists,
      is,
      inr (inr (refl, has, (answer, performs, subst (λ line. WritesPart line (g.W.Sink.written c.args.out.now) (g.W.Sink.written c.say.new.out)) (c.as_bytes.ensures.value ∙ text) part))),
    ))

-- The text was refused, or the import.
pub returns-in-Err-clause-err : goal.returns-in-Err-clause-err
returns-in-Err-clause-err g c =
    let read = subst (IsReadOf (g.C.CsvFiles.csv_at c.args.files.now c.args.path.now)) (sym c.deref.ensures.value) c.in-Ok.ensures.text in
    elim (c.in-Err.ensures.err) [
      | inl (refuses, same) ↦ inl (inr (c.deref.result.now, c.in-Err.refusal, read, refl, refuses), same, refl)
      | inr (pairs, lists, inl declines) ↦ inr (c.deref.result.now, pairs, c.in-Err.refusal, read, lists, refl, inl (declines, refl))
      | inr (pairs, lists, inr (memory, (answer, performs))) ↦ inr (c.deref.result.now, pairs, c.in-Err.refusal, read, lists, refl, inr (inl (memory, refl, (answer, performs))))
    ]
