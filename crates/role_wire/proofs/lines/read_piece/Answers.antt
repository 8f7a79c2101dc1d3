use Rattle.std.proofs.Common.{◌≡◌, ◌⊎◌, ◌++◌, ◌+◌, ◌≤◌, ◌<◌, List, ℕ, [], ◌∷◌, Ok, Err, OnOk, IfErr, take, drop, length, length-append, refl, sym, ap, subst, ◌∙◌, append_assoc, arith}
use Rattle.std.proofs.lemmas.List.{append-nil}
use Rattle.std.proofs.lemmas.Result.{err_from_is_err_and}
use Rattle.std.proofs.lemmas.Grind.{common_steps}
use Rattle.role_wire.specs.Lines.{line_feed, longest_line}
use Rattle.role_wire.specs.private.ReadProgress.{read_position_of, IsRead, HasNoLineFeed, Halts}
use Rattle.role_wire.specs.declared.lines.Cause.{Cause}
use Rattle.role_wire.specs.declared.lines.Cause.TheVariants.{Line, Memory}
use Rattle.role_wire.proofs.Splitting.{first_line_feed, no_line_feed}
use Rattle.role_wire.proofs.ReadSoFar.{read_none, read_open, read_more}
use Rattle.role_wire.proofs.Stopping.{halts_open, halts_behind}
use Rattle.role_wire.proofs.lines.read_piece.Goals as goal

pub loop-end-init : goal.loop-end-init
loop-end-init g c = record {
  front = [];
  piece_is = refl;
  is_read = read_none g.A.AnswerLines.answers _ c.requires.open_line;
  number_rises = omega arith;
  answered_rises = omega arith;
  failures = omega arith;
  idle_rises = omega arith;
}

pub read_line-requires-clause-plain : goal.read_line-requires-clause-plain
read_line-requires-clause-plain g c = (first_line_feed c.loop-end.rest.now c.in-Some.end (sym c.in-Some.ensures)).1

pub returns-in_err-read_line-clause-err : goal.returns-in_err-read_line-clause-err
returns-in_err-read_line-clause-err g c =
    let p = err_from_is_err_and c.from_residual.result c.from_residual.ensures.1 in
    let before = c.loop-end.invariant in
    let end = c.in-Some.end in
    let rest = c.loop-end.rest.now in
    let start = read_position_of c.args.office.now c.args.progress.now (g.W.Sink.written c.args.sink.now) in
    let between = read_position_of c.loop-end.office c.loop-end.progress (g.W.Sink.written c.loop-end.sink) in
    let whole : c.args.piece.now ≡ before.front ++ (take end rest ++ line_feed ∷ drop (end + 1) rest) =
    before.piece_is ∙ ap (λ l. before.front ++ l) (first_line_feed rest end (sym c.in-Some.ensures)).2 in
    rw (p.1, p.2, whole) (halts_behind g.A.AnswerLines.answers g.A.AnswerLines.fails start between before.front _ ⊥ _ _ _ _ before.is_read (c.in_err-read_line.ensures.err (drop (end + 1) rest)))

pub loop-end-preserved : goal.loop-end-preserved
loop-end-preserved g c =
    let before = c.loop-end.invariant in
    let end = c.in-Some.end in
    let rest = c.loop-end.rest.now in
    let told = c.in_ok-read_line.ensures in
    let start = read_position_of c.args.office.now c.args.progress.now (g.W.Sink.written c.args.sink.now) in
    let between = read_position_of c.loop-end.office c.loop-end.progress (g.W.Sink.written c.loop-end.sink) in
    let found = first_line_feed rest end (sym c.in-Some.ensures) in
    let line : List ℕ = take end rest ++ line_feed ∷ [] in
    let whole : c.args.piece.now ≡ (before.front ++ line) ++ drop (end + 1) rest =
    before.piece_is ∙ ap (λ l. before.front ++ l) (found.2 ∙ sym (append_assoc (take end rest) (line_feed ∷ []) (drop (end + 1) rest))) ∙ sym (append_assoc before.front line (drop (end + 1) rest)) in
    let some : 1 ≤ length line = omega (arith, length-append (take end rest) (line_feed ∷ [])) in
    record {
      front = before.front ++ line;
      piece_is = grind (arith, common_steps, whole);
      is_read = read_more g.A.AnswerLines.answers start between _ before.front line before.is_read told.ok;
      number_rises = omega (arith, before.number_rises, told.number, length-append before.front line, some);
      answered_rises = omega (arith, before.answered_rises, told.answered, length-append before.front line, some);
      failures = omega (arith, before.failures, told.failures);
      idle_rises = omega (arith, before.idle_rises, told.idle);
    }

pub returns-clause-ok : goal.returns-clause-ok
returns-clause-ok g c =
    let before = c.loop-end.invariant in
    let start = read_position_of c.args.office.now c.args.progress.now (g.W.Sink.written c.args.sink.now) in
    let between = read_position_of c.loop-end.office c.loop-end.progress (g.W.Sink.written c.loop-end.sink) in
    let now = read_position_of c.loop-end.office c.extend_line.new.self (g.W.Sink.written c.loop-end.sink) in
    let rest : List ℕ = c.loop-end.rest.now in
    let plain : HasNoLineFeed rest = no_line_feed rest (sym c.line_end.ensures ∙ c.in_default.is) in
    let told = c.extend_line.ensures in
    let whole : now.line ≡ between.line ++ rest → length now.line ≤ longest_line → IsRead g.A.AnswerLines.answers start now c.args.piece.now = λ line fits.
    subst (IsRead g.A.AnswerLines.answers start now) (sym before.piece_is) (read_more g.A.AnswerLines.answers start between now before.front rest before.is_read
    (read_open g.A.AnswerLines.answers between now rest plain before.is_read.open_line.plain fits refl line told.number told.answered refl)) in
    elim c.extend_line.result as (λ r. OnOk r (now.line ≡ between.line ++ rest) → OnOk r (length now.line ≤ longest_line) → OnOk r (IsRead g.A.AnswerLines.answers start now c.args.piece.now)) [
      | Ok none ↦ whole
      | Err cause ↦ λ line fits. tt
    ] told.line told.fits

pub returns-clause-err : goal.returns-clause-err
returns-clause-err g c =
    let before = c.loop-end.invariant in
    let start = read_position_of c.args.office.now c.args.progress.now (g.W.Sink.written c.args.sink.now) in
    let between = read_position_of c.loop-end.office c.loop-end.progress (g.W.Sink.written c.loop-end.sink) in
    let rest : List ℕ = c.loop-end.rest.now in
    let plain : HasNoLineFeed rest = no_line_feed rest (sym c.line_end.ensures ∙ c.in_default.is) in
    let told = c.extend_line.ensures in
    let Why : Cause → Type 0 = λ cause. (cause ≡ Memory) ⊎ ((cause ≡ Line (between.number + 1)) × (longest_line < length (between.line ++ rest))) in
    let Halted : Cause → Type 0 = λ cause. Halts g.A.AnswerLines.answers g.A.AnswerLines.fails start c.args.piece.now ⊥ cause c.loop-end.office (g.W.Sink.written c.loop-end.sink) c.extend_line.new.self.answered in
    let whole : (cause : Cause) → Why cause → Halted cause = λ cause why.
    subst (λ l. Halts g.A.AnswerLines.answers g.A.AnswerLines.fails start l ⊥ cause c.loop-end.office (g.W.Sink.written c.loop-end.sink) c.extend_line.new.self.answered)
    (ap (λ l. before.front ++ l) (append-nil rest) ∙ sym before.piece_is)
    (halts_behind g.A.AnswerLines.answers g.A.AnswerLines.fails start between before.front (rest ++ []) ⊥ cause _ _ _ before.is_read
    (halts_open g.A.AnswerLines.answers g.A.AnswerLines.fails between rest [] ⊥ cause _ before.is_read.open_line plain told.answered why)) in
    elim c.extend_line.result as (λ r. IfErr r Why → IfErr r Halted) [
      | Ok none ↦ λ why. tt
      | Err cause ↦ whole cause
    ] told.err
