use Rattle.std.proofs.Common.{◌+◌, [], ◌∷◌, inl, refl, ap}
use Rattle.std.proofs.lemmas.Result.{err_from_is_err_and}
use Rattle.role_wire.specs.Lines.{line_feed}
use Rattle.role_wire.specs.private.ReadProgress.{read_position_of, IsRead}
use Rattle.role_wire.proofs.ReadSoFar.{read_open, read_ended, read_more}
use Rattle.role_wire.proofs.Stopping.{halts_open, halts_line}
use Rattle.role_wire.proofs.lines.read_line.Goals as goal

pub returns-in_err-extend_line-clause-err : goal.returns-in_err-extend_line-clause-err
returns-in_err-extend_line-clause-err g c =
    let p = err_from_is_err_and c.from_residual.result c.from_residual.ensures.1 in
    let told = c.in_err-extend_line.ensures in
    let start = read_position_of c.args.office.now c.args.progress.now (g.W.Sink.written c.args.sink.now) in
    rw (p.1, p.2) (λ after. halts_open g.A.AnswerLines.answers g.A.AnswerLines.fails start c.args.bytes.now (line_feed ∷ after) ⊥ _ _ c.requires.open_line c.requires.plain told.answered told.err)

pub returns-in_err-end_line-clause-err : goal.returns-in_err-end_line-clause-err
returns-in_err-end_line-clause-err g c =
    let p = err_from_is_err_and c.from_residual-in_err-end_line.result c.from_residual-in_err-end_line.ensures.1 in
    let line = c.in_ok-extend_line.ensures in
    let told = c.in_err-end_line.ensures in
    let start = read_position_of c.args.office.now c.args.progress.now (g.W.Sink.written c.args.sink.now) in
    let between = read_position_of c.args.office.now c.extend_line.new.self (g.W.Sink.written c.args.sink.now) in
    let read = read_open g.A.AnswerLines.answers start between c.args.bytes.now c.requires.plain c.requires.open_line.plain line.fits refl line.line line.number line.answered refl in
    rw (p.1, p.2) (λ after. halts_line g.A.AnswerLines.answers g.A.AnswerLines.fails start between c.args.bytes.now (line_feed ∷ after) ⊥ _ _ _ _ read (inl (after, refl)) told.err told.stays)

pub returns-clause-ok : goal.returns-clause-ok
returns-clause-ok g c =
    let line = c.in_ok-extend_line.ensures in
    let told = c.in_ok-end_line.ensures in
    let start = read_position_of c.args.office.now c.args.progress.now (g.W.Sink.written c.args.sink.now) in
    let between = read_position_of c.args.office.now c.extend_line.new.self (g.W.Sink.written c.args.sink.now) in
    let now = read_position_of c.end_line.new.office (record { line = c.end_line.new.progress.line; number = c.end_line.new.progress.number + 1; answered = c.end_line.new.progress.answered }) (g.W.Sink.written c.end_line.new.sink) in
    let read : IsRead g.A.AnswerLines.answers start between c.args.bytes.now =
    read_open g.A.AnswerLines.answers start between c.args.bytes.now c.requires.plain c.requires.open_line.plain line.fits refl line.line line.number line.answered refl in
    read_more g.A.AnswerLines.answers start between now c.args.bytes.now (line_feed ∷ []) read
    (read_ended g.A.AnswerLines.answers between now read.open_line told.ok told.line (ap (λ n. n + 1) told.number))
