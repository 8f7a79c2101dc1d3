use Rattle.std.proofs.Common.{◌≡◌, Err, IfErr, rules, refl, sym, ap, subst, ◌∙◌}
use Rattle.rbac_sets.specs.CommandContent.{content_of}
use Rattle.admin_mgr.specs.After.{after}
use Rattle.admin_mgr.specs.PlanEffect.{LeadsTo, tally_of_report}
use Rattle.role_json.specs.Answer.{text_of}
use Rattle.role_json.specs.RequestContent.{Change}
use Rattle.role_lines.specs.private.LineAnswer.{RefusesRequest}
use Rattle.role_lines.proofs.Judging.{command_done, command_refused}
use Rattle.role_lines.proofs.answering.change.Goals as goal

pub commit-report-requires-clause-planned : goal.commit-report-requires-clause-planned
commit-report-requires-clause-planned c =
    let T = after c.args.state.now.facts c.args.command.now in
    (T, subst (λ S. LeadsTo S c.in_ok-plan.plan T) (sym c.make_room.ensures.keeps) c.in_ok-plan.ensures.planned.leads)

pub returns-in_err-plan-clause-declined : goal.returns-in_err-plan-clause-declined
returns-in_err-plan-clause-declined c =
    let S = c.args.state.now.facts in
    let n = c.args.revision.now in
    let told : c.from_residual.result ≡ Err c.in_err-plan.field-0.0 = search rules in
    subst (λ r. IfErr r (λ refusal. RefusesRequest S n (Change (content_of c.args.command.now)) refusal S n)) (sym told)
    (command_refused S n c.args.command.now S n c.in_err-plan.field-0.0 refl refl c.in_err-plan.ensures.refused)

pub returns-clause-done : goal.returns-clause-done
returns-clause-done c =
    let S = c.args.state.now.facts in let T = after S c.args.command.now in
    command_done S c.args.revision.now c.args.command.now c.commit-report.new.self.facts _ (tally_of_report c.commit-report.result) (text_of c.verdict_on.result) c.in_ok-plan.ensures.accepted
    (c.commit-report.ensures.state T (subst (λ S. LeadsTo S c.in_ok-plan.plan T) (sym c.make_room.ensures.keeps) c.in_ok-plan.ensures.planned.leads))
    c.next_revision.ensures
    (ap (λ r. tally_of_report r) c.commit-report.ensures.report ∙ c.in_ok-plan.ensures.planned.report) c.verdict_on.ensures
