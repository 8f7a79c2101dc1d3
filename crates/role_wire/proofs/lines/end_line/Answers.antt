use Rattle.std.proofs.Common.{◌∙◌, sym, ap, arith}
use Rattle.role_wire.specs.Lines.{is_blank}
use Rattle.role_wire.proofs.ReadSoFar.{ends_blank, ends_answered}
use Rattle.role_wire.proofs.lines.end_line.Goals as goal
use Rattle.role_wire.proofs.lines.end_line.Goals.{then-not-is_blank+in-Ok+in-Ok-write_all+in-Owned-1, then-not-is_blank+in-Ok+in-Ok-write_all+in-Borrowed-1, else-not-is_blank}

pub returns-clause-ok : goal.returns-clause-ok
returns-clause-ok g c = elim c.if-not-is_blank.branch [
  | then-not-is_blank+in-Ok+in-Ok-write_all+in-Owned-1 w ↦
      let said = w.in-Ok.ensures.ok in
      rw (w.progress-is, w.office-is, w.sink-is) (ends_answered g.A.AnswerLines.answers _ _ _ _ _ _ _ _ _
      (ap is_blank (sym c.deref.ensures.value) ∙ sym c.is_blank.ensures ∙ w.if-not-is_blank.true) (rw w.deref-then-not-is_blank.ensures.value at said.1) said.2
      (rw (w.as_bytes.ensures.value, w.deref-then-not-is_blank-2.ensures.value) at w.in-Ok-write_all.ensures.ok) (omega arith))
  | then-not-is_blank+in-Ok+in-Ok-write_all+in-Borrowed-1 w ↦
      let said = w.in-Ok.ensures.ok in
      rw (w.progress-is, w.office-is, w.sink-is) (ends_answered g.A.AnswerLines.answers _ _ _ _ _ _ _ _ _
      (ap is_blank (sym c.deref.ensures.value) ∙ sym c.is_blank.ensures ∙ w.if-not-is_blank.true) (rw w.deref-then-not-is_blank.ensures.value at said.1) said.2
      (rw (w.as_bytes.ensures.value, w.deref-then-not-is_blank-2.ensures.value) at w.in-Ok-write_all.ensures.ok) (omega arith))
  | else-not-is_blank w ↦
      rw (w.progress-is, w.office-is, w.sink-is) (ends_blank g.A.AnswerLines.answers _ _ _ _ (ap is_blank (sym c.deref.ensures.value) ∙ sym c.is_blank.ensures ∙ w.if-not-is_blank.false))
]
