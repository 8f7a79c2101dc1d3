use Rattle.std.proofs.Common.{◌≡◌, ◌≤◌, ◌+◌, ◌++◌, inl, inr, sym, subst, List, ℕ, [], Ok, Err, OnOk, OnErr, IfErr, length, take, length-take, arith}
use Rattle.std.proofs.lemmas.Result.{err_from_is_err_and}
use Rattle.std.specs.Io.KnownBytes.{Consumes, IsAtEnd}
use Rattle.role_wire.specs.declared.lines.Cause.{Cause}
use Rattle.role_wire.specs.declared.lines.Cause.TheVariants.{Read}
use Rattle.role_wire.specs.Replay.{IsReplayed, IsStopped}
use Rattle.role_wire.specs.private.ReadProgress.{read_position_of, IsOpenLine, EndsLine, StopsAtLine}
use Rattle.rbac_sets.specs.Stream.{one_more}
use Rattle.rbac_sets.proofs.Counting.{one_more-rises, one_more-most}
use Rattle.rbac_sets.proofs.Known.{Consumes-none, Consumes-kept, Consumes-more, Consumes-no_more}
use Rattle.role_wire.proofs.ReadSoFar.{read_none, read_more}
use Rattle.role_wire.proofs.Stopping.{finished, stopped, halts_read, halts_last, halts_within, halts_behind}
use Rattle.role_wire.proofs.lines.read_input.Invariants.{HasRead}
use Rattle.role_wire.proofs.lines.read_input.Goals as goal

-- one more read
read_again : (turns before now : ℕ) → HasRead turns before now → HasRead (turns + 1) before (one_more now)
read_again turns before now (most, least) = (
  omega (arith, most, one_more-most now),
  elim (one_more-rises now) [
    | inl rises ↦ elim least [
      | inl all ↦ inl (omega (arith, rises, all))
      | inr greatest ↦ inr (omega (arith, rises, greatest))
    ]
    | inr greatest ↦ inr greatest
  ],
)

pub loop-turn-init : goal.loop-turn-init
loop-turn-init g c =
    let open_line : IsOpenLine c.args.progress.now.line.items = rw c.requires.line (record { fits = omega arith; plain = tt }) in
    record {
      taken = [];
      is_consumed = Consumes-none _;
      is_read = read_none g.A.AnswerLines.answers (read_position_of c.args.office.now c.args.progress.now (g.W.Sink.written c.args.sink.now)) open_line;
      number_within = rw c.requires.number (omega arith);
      answered_within = rw c.requires.answered (omega arith);
      writes = omega arith;
      idle = omega arith;
      failures = omega arith;
      has_read = (omega arith, inl (omega arith));
    }

pub loop-turn-preserved : goal.loop-turn-preserved
loop-turn-preserved g c =
    let before = c.loop-turn.invariant in
    let told = c.in_ok-read_piece.ensures in
    let bytes : List ℕ = take c.in-Ok.count c.read.new.buffer in
    let within : length bytes ≤ 8192 = omega (arith, length-take c.in-Ok.count c.read.new.buffer, c.in-Ok.ensures.bound) in
    record {
      taken = before.taken ++ bytes;
      is_consumed = Consumes-more _ _ _ _ _ before.is_consumed c.in-Ok.ensures.bytes.0;
      is_read = read_more g.A.AnswerLines.answers _ _ _ before.taken bytes before.is_read told.ok;
      number_within = omega (arith, before.number_within, told.number, within);
      answered_within = omega (arith, before.answered_within, told.answered, within);
      writes = omega (arith, before.writes, told.failures);
      idle = omega (arith, before.idle, told.idle);
      failures = grind (arith, before.failures, c.in-Ok.ensures.failures);
      has_read = subst (HasRead (c.loop-turn._turn + 1) (g.R.Source.reads c.args.source.now)) (sym c.in-Ok.ensures.reads) (read_again c.loop-turn._turn _ _ before.has_read);
    }

pub returns-in_default-clause-err : goal.returns-in_default-clause-err
returns-in_default-clause-err g c =
    let before = c.loop-turn.invariant in
    let start = read_position_of c.args.office.now c.args.progress.now (g.W.Sink.written c.args.sink.now) in
    let between = read_position_of c.loop-turn.office c.loop-turn.progress (g.W.Sink.written c.loop-turn.sink) in (
      before.taken,
      Consumes-no_more _ _ _ before.taken before.is_consumed (Consumes-kept _ _ c.in_default.ensures.bytes),
      stopped g.A.AnswerLines.answers g.A.AnswerLines.fails start before.taken (IsAtEnd (g.R.Source.remaining c.read.new.self)) c.requires.line Read c.loop-turn.office (g.W.Sink.written c.loop-turn.sink) c.loop-turn.progress.answered
          (halts_read g.A.AnswerLines.answers g.A.AnswerLines.fails start between before.taken _ before.is_read) c.requires.number c.requires.answered,
    )

pub returns-clause-err : goal.returns-clause-err
returns-clause-err g c =
    let before = c.loop-turn.invariant in
    let start = read_position_of c.args.office.now c.args.progress.now (g.W.Sink.written c.args.sink.now) in
    let between = read_position_of c.loop-turn.office c.loop-turn.progress (g.W.Sink.written c.loop-turn.sink) in (
      before.taken,
      before.is_consumed,
      stopped g.A.AnswerLines.answers g.A.AnswerLines.fails start before.taken (IsAtEnd (g.R.Source.remaining c.loop-turn.source)) c.requires.line Read c.loop-turn.office (g.W.Sink.written c.loop-turn.sink) c.loop-turn.progress.answered
          (halts_read g.A.AnswerLines.answers g.A.AnswerLines.fails start between before.taken _ before.is_read) c.requires.number c.requires.answered,
    )

pub returns-in_err-read_piece-clause-err : goal.returns-in_err-read_piece-clause-err
returns-in_err-read_piece-clause-err g c =
    let p = err_from_is_err_and c.from_residual.result c.from_residual.ensures.1 in
    let before = c.loop-turn.invariant in
    let bytes : List ℕ = take c.in-Ok.count c.read.new.buffer in
    let start = read_position_of c.args.office.now c.args.progress.now (g.W.Sink.written c.args.sink.now) in
    let between = read_position_of c.loop-turn.office c.loop-turn.progress (g.W.Sink.written c.loop-turn.sink) in
    let at_end = IsAtEnd (g.R.Source.remaining c.read.new.self) in
    rw (p.1, p.2) (
      before.taken ++ bytes,
      Consumes-more _ _ _ before.taken bytes before.is_consumed c.in-Ok.ensures.bytes.0,
      stopped g.A.AnswerLines.answers g.A.AnswerLines.fails start (before.taken ++ bytes) at_end c.requires.line _ _ _ _
          (halts_behind g.A.AnswerLines.answers g.A.AnswerLines.fails start between before.taken bytes at_end _ _ _ _ before.is_read
          (halts_within g.A.AnswerLines.answers g.A.AnswerLines.fails between bytes at_end _ _ _ _ c.in_err-read_piece.ensures.err)) c.requires.number c.requires.answered,
    )

pub returns-then-count-eq0-clause-ok : goal.returns-then-count-eq0-clause-ok
returns-then-count-eq0-clause-ok g c =
    let before = c.loop-turn.invariant in
    let start = read_position_of c.args.office.now c.args.progress.now (g.W.Sink.written c.args.sink.now) in
    let between = read_position_of c.loop-turn.office c.loop-turn.progress (g.W.Sink.written c.loop-turn.sink) in
    let told = c.end_line.ensures in
    let consumed = Consumes-no_more _ _ _ before.taken before.is_consumed (rw c.if-count-eq0.true at c.in-Ok.ensures.bytes.0) in
    let Ended : Type 0 = EndsLine g.A.AnswerLines.answers between.state between.line c.end_line.new.office between.written (g.W.Sink.written c.end_line.new.sink) between.answered c.end_line.new.progress.answered in
    let Whole : Type 0 = (input : List ℕ) × Consumes (g.R.Source.remaining c.args.source.now) (g.R.Source.remaining c.read.new.self) input
    × IsReplayed g.A.AnswerLines.answers c.args.office.now c.end_line.new.office input (g.W.Sink.written c.args.sink.now) (g.W.Sink.written c.end_line.new.sink) c.end_line.new.progress.answered in
    let whole : Ended → Whole = λ ends. (
      before.taken,
      consumed,
      finished g.A.AnswerLines.answers start between c.end_line.new.office before.taken _ _ c.requires.line c.requires.answered before.is_read ends,
    ) in
    elim c.end_line.result as (λ r. OnOk r Ended → OnOk r Whole) [
      | Ok none ↦ whole
      | Err cause ↦ λ ends. tt
    ] told.ok

pub returns-then-count-eq0-clause-err : goal.returns-then-count-eq0-clause-err
returns-then-count-eq0-clause-err g c =
    let before = c.loop-turn.invariant in
    let start = read_position_of c.args.office.now c.args.progress.now (g.W.Sink.written c.args.sink.now) in
    let between = read_position_of c.loop-turn.office c.loop-turn.progress (g.W.Sink.written c.loop-turn.sink) in
    let told = c.end_line.ensures in
    let at_end = IsAtEnd (g.R.Source.remaining c.read.new.self) in
    let end : at_end = c.in-Ok.ensures.bytes.1 c.if-count-eq0.true (omega arith) in
    let consumed = Consumes-no_more _ _ _ before.taken before.is_consumed (rw c.if-count-eq0.true at c.in-Ok.ensures.bytes.0) in
    let new = c.end_line.new.office in
    let written = g.W.Sink.written c.end_line.new.sink in
    let answered = c.end_line.new.progress.answered in
    let Failed : Cause → Type 0 = λ cause. StopsAtLine g.A.AnswerLines.answers g.A.AnswerLines.fails cause between.state between.line new between.written written in
    let Whole : Cause → Type 0 = λ cause. (taken : List ℕ) × Consumes (g.R.Source.remaining c.args.source.now) (g.R.Source.remaining c.read.new.self) taken
    × IsStopped g.A.AnswerLines.answers g.A.AnswerLines.fails c.args.office.now new taken at_end (g.W.Sink.written c.args.sink.now) written cause answered in
    let whole : (cause : Cause) → Failed cause → answered ≡ between.answered → Whole cause = λ cause failed stays. (
      before.taken,
      consumed,
      stopped g.A.AnswerLines.answers g.A.AnswerLines.fails start before.taken at_end c.requires.line cause new written answered
          (halts_last g.A.AnswerLines.answers g.A.AnswerLines.fails start between before.taken at_end cause new written answered before.is_read end failed stays) c.requires.number c.requires.answered,
    ) in
    elim c.end_line.result as (λ r. IfErr r Failed → OnErr r (answered ≡ between.answered) → IfErr r Whole) [
      | Ok none ↦ λ failed stays. tt
      | Err cause ↦ whole cause
    ] told.err told.stays
