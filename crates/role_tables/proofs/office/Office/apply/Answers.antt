use Rattle.std.proofs.Common.{rules, ◌≡◌, ◌⊎◌, ◌∷◌, [], inl, false, None, Some, sym, ap, subst, refl, ◌∙◌, Ok, Err, true}
use Rattle.std.proofs.lemmas.Bool.{true≢false}
use Rattle.sqlite.specs.Held.{state}
use Rattle.admin_mgr.specs.After.{after}
use Rattle.admin_mgr.specs.Good.{IsGood}
use Rattle.admin_mgr.specs.PlanEffect.{LeadsTo, IsPlanOf, tally_of_report}
use Rattle.admin_mgr.specs.Verdict.{verdict}
use Rattle.rbac_sets.specs.declared.refusal.Refusal.TheVariants.{Memory, Store, Closed}
use Rattle.role_tables.specs.Office.{AnswersCommand, event_of}
use Rattle.role_tables.specs.Runs.{GoesOnBy}
use Rattle.role_tables.specs.Durability.{ForgetsNoFault, HoldsAsBefore, IsDurable, LeavesByEvents}
use Rattle.role_tables.proofs.Reading.Durability.{leaves_either}
use Rattle.admin_mgr.specs.StateNames.{AreNamed}
use Rattle.admin_mgr.proofs.StateAfter.NamedLaws.{named_turns}
use Rattle.role_tables.proofs.Events.{plan_refused, leaves_unchanged, leaves_done, leaves_failed}
use Rattle.role_tables.proofs.Runs.{closed_call, done_call, goes_on, refused_call, failed_call}
use Rattle.role_tables.proofs.office.Office.apply.Goals as goal

pub returns-in_err-plan-clause-answers : goal.returns-in_err-plan-clause-answers
returns-in_err-plan-clause-answers g c working =
    let is : c.from_residual.result ≡ Err c.in_err-plan.field-0.0 = search rules in
    let facts : c.self.inside.state.facts ≡ c.args.self.now.facts = search rules in
    subst (λ r. AnswersCommand c.args.self.now c.args.command.now r c.args.self.now) (sym is)
    (plan_refused c.args.self.now c.args.command.now c.in_err-plan.field-0.0
    (subst (λ S. (c.in_err-plan.field-0.0 ≡ Memory) ⊎ (verdict S c.args.command.now ≡ Some c.in_err-plan.field-0.0)) facts c.in_err-plan.ensures.refused))

pub returns-in_err-plan-clause-crash : goal.returns-in_err-plan-clause-crash
returns-in_err-plan-clause-crash g c working clean stands =
    let is : c.from_residual.result ≡ Err c.in_err-plan.field-0.0 = search rules in
    let facts : c.self.inside.state.facts ≡ c.args.self.now.facts = search rules in
    subst (λ r. LeavesByEvents (state g.S.Store c.args.self.now.conn) c.args.self.now.facts (event_of c.args.command.now r ∷ [])) (sym is)
    (leaves_unchanged g.S.Store c.args.self.now c.args.command.now c.in_err-plan.field-0.0
    (subst (λ S. (c.in_err-plan.field-0.0 ≡ Memory) ⊎ (verdict S c.args.command.now ≡ Some c.in_err-plan.field-0.0)) facts c.in_err-plan.ensures.refused) stands)

pub commit-report-requires-clause-planned : goal.commit-report-requires-clause-planned
commit-report-requires-clause-planned g c =
    (after c.self.inside.state.facts c.args.command.now, subst (λ S. LeadsTo S c.in_ok-plan.plan (after c.self.inside.state.facts c.args.command.now)) (sym c.make_room.ensures.keeps) c.in_ok-plan.ensures.planned.leads)

pub returns-in-Ok-clause-done : goal.returns-in-Ok-clause-done
returns-in-Ok-clause-done g c working clean stands =
    let S = c.args.self.now.facts in
    let facts : c.self.inside.state.facts ≡ S = search rules in
    let planned : IsPlanOf S c.args.command.now c.in_ok-plan.plan = subst (λ S. IsPlanOf S c.args.command.now c.in_ok-plan.plan) facts c.in_ok-plan.ensures.planned in
    let leads = planned.leads in
    let conn_is : c.args.self.now.conn ≡ c.self.inside.conn = search rules in
    (c.in-Ok.ensures.written clean S (after S c.args.command.now) (rw c.changes.ensures leads.rows) (subst (λ S. IsGood S) facts c.self.invariant.1) leads.good (subst (λ h. IsDurable (state g.S.Store h) S) conn_is stands)).done

pub returns-in-Ok-clause-crash : goal.returns-in-Ok-clause-crash
returns-in-Ok-clause-crash g c working clean stands =
    let S = c.args.self.now.facts in
    let facts : c.self.inside.state.facts ≡ S = search rules in
    let planned : IsPlanOf S c.args.command.now c.in_ok-plan.plan = subst (λ S. IsPlanOf S c.args.command.now c.in_ok-plan.plan) facts c.in_ok-plan.ensures.planned in
    let accepted : verdict S c.args.command.now ≡ None = subst (λ S. verdict S c.args.command.now ≡ None) facts c.in_ok-plan.ensures.accepted in
    let leads = planned.leads in
    let conn_is : c.args.self.now.conn ≡ c.self.inside.conn = search rules in
    leaves_done (state g.S.Store c.write_changes.new.conn) S c.args.command.now c.commit-report.result accepted (ap tally_of_report c.commit-report.ensures.report ∙ planned.report)
    (c.in-Ok.ensures.written clean S (after S c.args.command.now) (rw c.changes.ensures leads.rows) (subst (λ S. IsGood S) facts c.self.invariant.1) leads.good (subst (λ h. IsDurable (state g.S.Store h) S) conn_is stands)).done

pub returns-in-Err-clause-crash : goal.returns-in-Err-clause-crash
returns-in-Err-clause-crash g c working clean stands =
    let S = c.args.self.now.facts in
    let T = after S c.args.command.now in
    let facts : c.self.inside.state.facts ≡ S = search rules in
    let planned : IsPlanOf S c.args.command.now c.in_ok-plan.plan = subst (λ S. IsPlanOf S c.args.command.now c.in_ok-plan.plan) facts c.in_ok-plan.ensures.planned in
    let accepted : verdict S c.args.command.now ≡ None = subst (λ S. verdict S c.args.command.now ≡ None) facts c.in_ok-plan.ensures.accepted in
    let leads = planned.leads in
    let conn_is : c.args.self.now.conn ≡ c.self.inside.conn = search rules in
    let same : c.match-plan-2.self.conn ≡ c.write_changes.new.conn = search rules in
    let here = subst (λ h. IsDurable (state g.S.Store h) S) conn_is stands in
    subst (λ h. LeavesByEvents (state g.S.Store h) S (event_of c.args.command.now (Err Store) ∷ [])) (sym same)
    (leaves_failed (state g.S.Store c.write_changes.new.conn) S c.args.command.now accepted
    (leaves_either (state g.S.Store c.self.inside.conn) (state g.S.Store c.write_changes.new.conn) S T here
    (c.in-Err.ensures.written (rw same at clean) S T (rw c.changes.ensures leads.rows) (subst (λ S. IsGood S) facts c.self.invariant.1) leads.good here).left))

pub returns-in_err-make_room-clause-crash : goal.returns-in_err-make_room-clause-crash
returns-in_err-make_room-clause-crash g c working clean stands =
    let is : c.from_residual-in_err-make_room.result ≡ Err Memory = search rules in
    let conn_is : c.args.self.now.conn ≡ c.self.inside.conn = search rules in
    subst (λ h. LeavesByEvents (state g.S.Store h) c.args.self.now.facts (event_of c.args.command.now c.from_residual-in_err-make_room.result ∷ [])) conn_is
    (subst (λ r. LeavesByEvents (state g.S.Store c.args.self.now.conn) c.args.self.now.facts (event_of c.args.command.now r ∷ [])) (sym is)
    (leaves_unchanged g.S.Store c.args.self.now c.args.command.now Memory (inl refl) stands))

pub returns-in_err-plan-clause-named : goal.returns-in_err-plan-clause-named
returns-in_err-plan-clause-named g c store =
    let is : c.from_residual.result ≡ Err c.in_err-plan.field-0.0 = search rules in
    let facts : c.self.inside.state.facts ≡ c.args.self.now.facts = search rules in
    let working : c.args.self.now.is_closed ≡ false = search rules in
    let its : c.in_err-plan.field-0.0 ≡ Store = cc in
    let answered = subst (λ r. AnswersCommand c.args.self.now c.args.command.now (Err r) c.args.self.now) its
    (plan_refused c.args.self.now c.args.command.now c.in_err-plan.field-0.0
    (subst (λ S. (c.in_err-plan.field-0.0 ≡ Memory) ⊎ (verdict S c.args.command.now ≡ Some c.in_err-plan.field-0.0)) facts c.in_err-plan.ensures.refused)) in
    absurd (true≢false (sym answered.1 ∙ working))

pub returns-in-Err-clause-named : goal.returns-in-Err-clause-named
returns-in-Err-clause-named g c store =
    let S = c.args.self.now.facts in
    let facts : c.self.inside.state.facts ≡ S = search rules in
    let planned : IsPlanOf S c.args.command.now c.in_ok-plan.plan = subst (λ S. IsPlanOf S c.args.command.now c.in_ok-plan.plan) facts c.in_ok-plan.ensures.planned in
    named_turns S (after S c.args.command.now) c.in_ok-plan.plan.changes.items planned.leads.rows (subst AreNamed facts c.self.invariant.2) c.recall_names.ensures

-- ---- the run with one event added

pub returns-in_err-plan-clause-run : goal.returns-in_err-plan-clause-run
returns-in_err-plan-clause-run g c =
    let is : c.from_residual.result ≡ Err c.in_err-plan.field-0.0 = search rules in
    let facts : c.self.inside.state.facts ≡ c.args.self.now.facts = search rules in
    let works : c.args.self.now.is_closed ≡ false = search rules in
    subst (λ r. GoesOnBy (state g.S.Store) c.args.self.now (event_of c.args.command.now r) c.args.self.now) (sym is)
    (goes_on (state g.S.Store) c.args.self.now (event_of c.args.command.now (Err c.in_err-plan.field-0.0)) c.args.self.now
    (refused_call g.S.Store c.args.self.now c.args.command.now c.in_err-plan.field-0.0 works
    (subst (λ S. (c.in_err-plan.field-0.0 ≡ Memory) ⊎ (verdict S c.args.command.now ≡ Some c.in_err-plan.field-0.0)) facts c.in_err-plan.ensures.refused)))

pub returns-then-self-clause-run : goal.returns-then-self-clause-run
returns-then-self-clause-run g c =
    let shut : c.args.self.now.is_closed ≡ true = search rules in
    goes_on (state g.S.Store) c.args.self.now (event_of c.args.command.now (Err Closed)) c.args.self.now (closed_call g.S.Store c.args.self.now c.args.command.now shut)

pub returns-in_err-make_room-clause-run : goal.returns-in_err-make_room-clause-run
returns-in_err-make_room-clause-run g c =
    let is : c.from_residual-in_err-make_room.result ≡ Err Memory = search rules in
    let works : c.args.self.now.is_closed ≡ false = search rules in
    let same : record { conn = c.self.inside.conn; facts = c.make_room.new.self.facts; is_closed = c.self.inside.is_closed } ≡ c.args.self.now = search rules in
    subst (λ o. GoesOnBy (state g.S.Store) c.args.self.now (event_of c.args.command.now c.from_residual-in_err-make_room.result) o) (sym same)
    (subst (λ r. GoesOnBy (state g.S.Store) c.args.self.now (event_of c.args.command.now r) c.args.self.now) (sym is)
    (goes_on (state g.S.Store) c.args.self.now (event_of c.args.command.now (Err Memory)) c.args.self.now
    (refused_call g.S.Store c.args.self.now c.args.command.now Memory works (inl refl))))

pub returns-in-Ok-clause-run : goal.returns-in-Ok-clause-run
returns-in-Ok-clause-run g c =
    let S = c.args.self.now.facts in
    let facts : c.self.inside.state.facts ≡ S = search rules in
    let planned : IsPlanOf S c.args.command.now c.in_ok-plan.plan = subst (λ S. IsPlanOf S c.args.command.now c.in_ok-plan.plan) facts c.in_ok-plan.ensures.planned in
    let accepted : verdict S c.args.command.now ≡ None = subst (λ S. verdict S c.args.command.now ≡ None) facts c.in_ok-plan.ensures.accepted in
    let conn_is : c.args.self.now.conn ≡ c.self.inside.conn = search rules in
    let works : c.args.self.now.is_closed ≡ false = search rules in
    let open_now : c.self.inside.is_closed ≡ false = search rules in
    let done : c.commit-report.new.self.facts ≡ after S c.args.command.now = search rules in
    goes_on (state g.S.Store) c.args.self.now (event_of c.args.command.now (Ok c.commit-report.result)) _
    (done_call g.S.Store c.args.self.now (record { conn = c.write_changes.new.conn; facts = c.commit-report.new.self.facts; is_closed = c.self.inside.is_closed }) c.args.command.now c.commit-report.result works
    (subst (λ h. ForgetsNoFault (state g.S.Store h) (state g.S.Store c.write_changes.new.conn)) (sym conn_is) c.write_changes.ensures.clean)
    (accepted, ap tally_of_report c.commit-report.ensures.report ∙ planned.report, done, open_now)
    (λ clean stands. returns-in-Ok-clause-done g c works clean stands)
    c.recall_names-in-Ok.ensures)

pub returns-in-Err-clause-run : goal.returns-in-Err-clause-run
returns-in-Err-clause-run g c =
    let S = c.args.self.now.facts in
    let T = after S c.args.command.now in
    let facts : c.self.inside.state.facts ≡ S = search rules in
    let planned : IsPlanOf S c.args.command.now c.in_ok-plan.plan = subst (λ S. IsPlanOf S c.args.command.now c.in_ok-plan.plan) facts c.in_ok-plan.ensures.planned in
    let accepted : verdict S c.args.command.now ≡ None = subst (λ S. verdict S c.args.command.now ≡ None) facts c.in_ok-plan.ensures.accepted in
    let leads = planned.leads in
    let conn_is : c.args.self.now.conn ≡ c.self.inside.conn = search rules in
    let same : c.match-plan-2.self.conn ≡ c.write_changes.new.conn = search rules in
    let works : c.args.self.now.is_closed ≡ false = search rules in
    let shut : c.match-plan-2.self.is_closed ≡ true = search rules in
    let stays : c.match-plan-2.self.facts ≡ S = search rules in
    goes_on (state g.S.Store) c.args.self.now (event_of c.args.command.now (Err Store)) c.match-plan-2.self
    (failed_call g.S.Store c.args.self.now c.match-plan-2.self c.args.command.now works
    (subst (λ h. ForgetsNoFault (state g.S.Store c.args.self.now.conn) (state g.S.Store h)) (sym same)
    (subst (λ h. ForgetsNoFault (state g.S.Store h) (state g.S.Store c.write_changes.new.conn)) (sym conn_is) c.write_changes.ensures.clean))
    (accepted, shut, stays)
    (λ clean stands.
    let here = subst (λ h. IsDurable (state g.S.Store h) S) conn_is stands in
    subst (λ h. HoldsAsBefore (state g.S.Store c.args.self.now.conn) (state g.S.Store h)) (sym same)
    (subst (λ h. HoldsAsBefore (state g.S.Store h) (state g.S.Store c.write_changes.new.conn)) (sym conn_is)
    (c.in-Err.ensures.written (rw same at clean) S T (rw c.changes.ensures leads.rows) (subst (λ S. IsGood S) facts c.self.invariant.1) leads.good here).undone))
    (λ clean stands. returns-in-Err-clause-crash g c works clean stands)
    (returns-in-Err-clause-named g c refl))
