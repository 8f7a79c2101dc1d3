use Rattle.std.specs.Io.KnownBytes.{IsAtEnd}
use Rattle.sqlite.specs.Held.{state}
use Rattle.role_wire.proofs.FirstLines.{writes_first}
use Rattle.role_wire.proofs.Replayed.{replayed, halted}
use Rattle.role_wire.proofs.Results.{if_ok-then, if_err-then}
use Rattle.role_wire.proofs.office_replay.replay.Goals as goal

pub returns-clause-ok : goal.returns-clause-ok
returns-clause-ok g c = if_ok-then c.answer_lines.result _ _ c.answer_lines.ensures.ok (λ count (input, consumed, done).
    let both = replayed (state g.S.Store) c.args.office.now c.answer_lines.new.office input (g.W.Sink.written c.args.sink.now) (g.W.Sink.written c.answer_lines.new.sink) count.answered done in
    (input, consumed, both.0, both.1))

pub returns-clause-stopped : goal.returns-clause-stopped
returns-clause-stopped g c works = if_err-then c.answer_lines.result _ _ c.answer_lines.ensures.stopped (λ stop stopped.
    let (taken, consumed, halts) = stopped works in
    (taken, consumed, halted (state g.S.Store) c.args.office.now c.answer_lines.new.office taken (IsAtEnd (g.R.Source.remaining c.answer_lines.new.source)) (g.W.Sink.written c.args.sink.now) (g.W.Sink.written c.answer_lines.new.sink) stop.cause stop.answered works halts))

pub returns-clause-first : goal.returns-clause-first
returns-clause-first g c works = if_err-then c.answer_lines.result _ _ (returns-clause-stopped g c works) (λ stop (taken, consumed, halts).
    (taken, consumed, writes_first (state g.S.Store) c.args.office.now c.answer_lines.new.office taken (IsAtEnd (g.R.Source.remaining c.answer_lines.new.source)) (g.W.Sink.written c.args.sink.now) (g.W.Sink.written c.answer_lines.new.sink) stop.cause stop.answered halts))
