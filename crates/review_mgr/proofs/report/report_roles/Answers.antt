use Rattle.std.proofs.Common.{◌≡◌, inl, inr, [], sym, ap, subst, refl, ◌∙◌, ◌++◌, take, drop, suc, arith, append_assoc}
use Rattle.std.proofs.lemmas.List.{append-nil}
use Rattle.rbac_sets.specs.Sets.{members}
use Rattle.rbac_sets.specs.NameOrder.{name_total, name_exact}
use Rattle.std.specs.Io.KnownBytes.{Appends}
use Rattle.rbac_sets.proofs.Known.{Appends-none, Appends-more}
use Rattle.rbac_sets.proofs.Counting.{risen_since}
use Rattle.role_order.proofs.Walks.{member_at}
use Rattle.review_mgr.specs.Report.{heading, line_of, lines_of, report}
use Rattle.review_mgr.proofs.Columns.{begun, report-some, lines-some, report-split, report-step, report-whole, on_err, lines-more}
use Rattle.review_mgr.proofs.report.report_roles.Goals as goal

pub returns-in_err-numbers-clause-part : goal.returns-in_err-numbers-clause-part
returns-in_err-numbers-clause-part g c = on_err _ c.from_residual.result ([], report c.args.state.now.facts, refl, report-some c.args.state.now.facts, Appends-none (g.W.Sink.written c.args.sink.now))

pub returns-in_err-write_text-clause-part : goal.returns-in_err-write_text-clause-part
unfolding report
returns-in_err-write_text-clause-part g c = on_err _ c.from_residual-in_err-write_text.result
    (begun (g.W.Sink.written c.args.sink.now) (g.W.Sink.written c.args.sink.now) (g.W.Sink.written c.write_text.new.sink) (report c.args.state.now.facts) [] heading (lines_of c.args.state.now.facts (members c.args.state.now.facts.roles))
    (Appends-none (g.W.Sink.written c.args.sink.now)) c.in_err-write_text.ensures.part refl)

pub loop-role-init : goal.loop-role-init
loop-role-init g c = record {
  written = subst (Appends (g.W.Sink.written c.args.sink.now) (g.W.Sink.written c.write_text.new.sink)) (sym (append-nil heading)) c.in_ok-write_text.ensures.ok;
  failures = c.write_text.ensures.failures;
  idle = c.write_text.ensures.idle;
}

pub line_of-requires-clause-role : goal.line_of-requires-clause-role
line_of-requires-clause-role g c =
    member_at name_total name_exact c.args.state.now.facts.roles c.as_slice-role-items.result.now (c.as_slice-role-items.ensures ∙ ap members c.roles.ensures)
    c.loop-role.role-index c.role-item.result c.loop-role-test.true c.role-item.is

pub loop-role-preserved : goal.loop-role-preserved
loop-role-preserved g c =
    let line : c.as_str.result.now ≡ line_of c.args.state.now.facts c.role-item.result = c.as_str.ensures.value ∙ c.in_ok-line.ensures.ok in
    let more = lines-more c.args.state.now.facts c.as_slice-role-items.result.now c.loop-role.role-index c.role-item.result c.loop-role-test.true c.role-item.is in
    record {
      written = subst (Appends (g.W.Sink.written c.args.sink.now) (g.W.Sink.written c.write_text-in-loop-role.new.sink))
          (append_assoc heading (lines_of c.args.state.now.facts (take c.loop-role.role-index c.as_slice-role-items.result.now)) c.as_str.result.now
          ∙ ap (λ l. heading ++ (lines_of c.args.state.now.facts (take c.loop-role.role-index c.as_slice-role-items.result.now) ++ l)) line
          ∙ ap (λ l. heading ++ l) (sym more))
          (Appends-more (g.W.Sink.written c.args.sink.now) (g.W.Sink.written c.loop-role.sink) (g.W.Sink.written c.write_text-in-loop-role.new.sink) _ _ c.loop-role.invariant.written c.in_ok-write_text-2.ensures.ok);
      failures = omega (arith, c.loop-role.invariant.failures, c.write_text-in-loop-role.ensures.failures);
      idle = omega (arith, c.loop-role.invariant.idle, c.write_text-in-loop-role.ensures.idle);
    }

pub returns-in_err-line-clause-part : goal.returns-in_err-line-clause-part
returns-in_err-line-clause-part g c = on_err _ c.from_residual-in_err-line.result (
  heading ++ lines_of c.args.state.now.facts (take c.loop-role.role-index c.as_slice-role-items.result.now),
  lines_of c.args.state.now.facts (drop c.loop-role.role-index c.as_slice-role-items.result.now),
  report-split c.args.state.now.facts c.as_slice-role-items.result.now c.loop-role.role-index (c.as_slice-role-items.ensures ∙ ap members c.roles.ensures),
  lines-some c.args.state.now.facts c.as_slice-role-items.result.now c.loop-role.role-index c.role-item.result c.loop-role-test.true,
  c.loop-role.invariant.written,
)

pub returns-in_err-write_text-2-clause-part : goal.returns-in_err-write_text-2-clause-part
returns-in_err-write_text-2-clause-part g c =
    let line : c.as_str.result.now ≡ line_of c.args.state.now.facts c.role-item.result = c.as_str.ensures.value ∙ c.in_ok-line.ensures.ok in
    let rest = lines_of c.args.state.now.facts (drop (suc c.loop-role.role-index) c.as_slice-role-items.result.now) in
    let so_far = heading ++ lines_of c.args.state.now.facts (take c.loop-role.role-index c.as_slice-role-items.result.now) in
    on_err _ c.from_residual-in_err-write_text-2.result
    (begun (g.W.Sink.written c.args.sink.now) (g.W.Sink.written c.loop-role.sink) (g.W.Sink.written c.write_text-in-loop-role.new.sink) (report c.args.state.now.facts) so_far c.as_str.result.now rest
    c.loop-role.invariant.written c.in_err-write_text-2.ensures.part
    (report-step c.args.state.now.facts c.as_slice-role-items.result.now c.loop-role.role-index c.role-item.result (c.as_slice-role-items.ensures ∙ ap members c.roles.ensures) c.loop-role-test.true c.role-item.is
    ∙ ap (λ l. so_far ++ (l ++ rest)) (sym line)))

pub returns-in_err-write_text-2-clause-store : goal.returns-in_err-write_text-2-clause-store
returns-in_err-write_text-2-clause-store g c = λ _. elim c.in_err-write_text-2.ensures.store [
  | inl failed ↦ inl (risen_since (g.W.Sink.failed c.args.sink.now) (g.W.Sink.failed c.loop-role.sink) (g.W.Sink.failed c.write_text-in-loop-role.new.sink) c.loop-role.invariant.failures failed)
  | inr idle ↦ inr (risen_since (g.W.Sink.idle c.args.sink.now) (g.W.Sink.idle c.loop-role.sink) (g.W.Sink.idle c.write_text-in-loop-role.new.sink) c.loop-role.invariant.idle idle)
]

pub returns-clause-ok : goal.returns-clause-ok
returns-clause-ok g c = subst (Appends (g.W.Sink.written c.args.sink.now) (g.W.Sink.written c.loop-role.sink))
    (report-whole c.args.state.now.facts c.as_slice-role-items.result.now c.loop-role.role-index (c.as_slice-role-items.ensures ∙ ap members c.roles.ensures) c.loop-role-test.false) c.loop-role.invariant.written
