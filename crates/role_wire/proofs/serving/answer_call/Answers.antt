use Rattle.std.proofs.Common.{◌≡◌, ◌<◌, Err, inl, inr, length, arith, refl, rules, subst, sym}
use Rattle.std.proofs.lemmas.Bool.{false≢true}
use Rattle.std.specs.Cow.{cow_str_bytes}
use Rattle.sqlite.specs.Held.{state}
use Rattle.role_http.specs.HeadAnswer.{with_left}
use Rattle.role_wire.specs.Events.{AddsUndone}
use Rattle.role_wire.specs.private.PreparedReply.{AnswersBody, IsReadAs}
use Rattle.role_wire.specs.Reply.{called_for}
use Rattle.role_wire.specs.ServedRequest.{IsImported, LeavesUnanswered}
use Rattle.role_wire.proofs.Calling.{called_whole, short_answered, taken_within}
use Rattle.role_wire.proofs.Performed.{stays}
use Rattle.role_wire.proofs.HttpAnswers.{has_no_memory}
use Rattle.role_wire.proofs.serving.answer_call.Goals as goal

pub returns-then-len-count-clause-made : goal.returns-then-len-count-clause-made
returns-then-len-count-clause-made g c =
    let short : length c.in-Ok.body.items < c.args.count = omega (arith, c.len.ensures, c.if-len-count.true) in
    rw c.unread-then-len-count.ensures.reply (
      c.in-Ok.body.items,
      c.in-Ok.ensures.reads,
      taken_within c.in-Ok.body.items _ c.args.count c.in-Ok.ensures.within,
      short_answered (state g.S.Store) c.args.office.now c.in-Ok.body.items _ c.args.called c.args.count c.refused_head.result short (c.in-Ok.ensures.end short) c.refused_head.ensures.status c.refused_head.ensures.body,
    )

pub returns-then-len-count-clause-whole : goal.returns-then-len-count-clause-whole
returns-then-len-count-clause-whole g c =
    let short : length c.in-Ok.body.items < c.args.count = omega (arith, c.len.ensures, c.if-len-count.true) in
    rw c.unread-then-len-count.ensures.unread (c.in-Ok.body.items, c.in-Ok.ensures.reads, (λ all. absurd (false≢true all), λ whole. absurd (omega (arith, short, whole))))

pub returns-clause-made : goal.returns-clause-made
returns-clause-made g c =
    let full : length c.in-Ok.body.items ≡ c.args.count = omega (arith, c.in-Ok.ensures.within, c.len.ensures, c.if-len-count.false) in (
      c.in-Ok.body.items,
      c.in-Ok.ensures.reads,
      taken_within c.in-Ok.body.items _ c.args.count c.in-Ok.ensures.within,
      subst (λ read. AnswersBody (state g.S.Store) c.args.office.now read c.in_ok-reply.reply c.answer_body.new.office) (sym (called_whole c.in-Ok.body.items _ c.args.called c.args.count full)) (rw c.deref.ensures.value at c.in_ok-reply.ensures.made),
    )

pub returns-clause-whole : goal.returns-clause-whole
returns-clause-whole g c =
    let full : length c.in-Ok.body.items ≡ c.args.count = omega (arith, c.in-Ok.ensures.within, c.len.ensures, c.if-len-count.false) in
    (c.in-Ok.body.items, c.in-Ok.ensures.reads, (λ all. full, λ whole. refl))

-- Allocating the body failed, and nothing was done.
pub returns-in-Err-Memory-clause-made : goal.returns-in-Err-Memory-clause-made
returns-in-Err-Memory-clause-made g c =
    let (taken, consumes, few) = c.in-Err-Memory.ensures.stops in
    rw c.unread.ensures.reply (
      taken,
      consumes,
      taken_within taken _ c.args.count (omega (arith, few)),
      (
        inr (inl (
          c.no_memory.ensures.status,
          c.no_memory.ensures.body,
          stays (state g.S.Store) c.args.office.now
              (AddsUndone c.args.office.now.facts (IsReadAs (called_for (with_left taken (g.R.Source.remaining c.read_bytes.new.source)) c.args.called c.args.count))) (inl refl),
        )),
        has_no_memory c.args.office.now c.args.office.now (IsReadAs (called_for (with_left taken (g.R.Source.remaining c.read_bytes.new.source)) c.args.called c.args.count)) c.no_memory.result.status (cow_str_bytes c.no_memory.result.body) refl c.no_memory.ensures.status c.no_memory.ensures.body,
      ),
    )

pub returns-in-Err-Memory-clause-whole : goal.returns-in-Err-Memory-clause-whole
returns-in-Err-Memory-clause-whole g c =
    let (taken, consumes, few) = c.in-Err-Memory.ensures.stops in
    rw c.unread.ensures.unread (taken, consumes, (λ all. absurd (false≢true all), λ whole. absurd (omega (arith, few, whole))))

pub returns-in_err-reply-clause-left : goal.returns-in_err-reply-clause-left
returns-in_err-reply-clause-left g c =
    let full : length c.in-Ok.body.items ≡ c.args.count = omega (arith, c.in-Ok.ensures.within, c.len.ensures, c.if-len-count.false) in
    let told : c.from_residual.result ≡ Err c.in_err-reply.field-0.0 = search rules in
    let (why, imported) = c.in_err-reply.ensures.left in
    rw told (
      c.in-Ok.body.items,
      c.in-Ok.ensures.reads,
      taken_within c.in-Ok.body.items _ c.args.count c.in-Ok.ensures.within,
      subst (λ cause. LeavesUnanswered (state g.S.Store) cause c.args.office.now
          (IsReadAs (called_for (with_left c.in-Ok.body.items (g.R.Source.remaining c.read_bytes.new.source)) c.args.called c.args.count)) c.answer_body.new.office) (sym why)
          (subst (λ read. IsImported (state g.S.Store) c.args.office.now (IsReadAs read) c.answer_body.new.office) (sym (called_whole c.in-Ok.body.items _ c.args.called c.args.count full)) (rw c.deref.ensures.value at imported)),
    )
