use Rattle.std.proofs.Common.{◌≡◌, Ok, Err, rules, inl, inr, refl, subst}
use Rattle.sqlite.specs.Held.{state}
use Rattle.rbac_sets.specs.CommandContent.{content_of}
use Rattle.admin_mgr.specs.PlanEffect.{tally_of_report}
use Rattle.role_json.specs.Answer.{import_text}
use Rattle.role_json.specs.RequestContent.{Change}
use Rattle.role_wire.specs.Outcome.{accepted_text}
use Rattle.role_wire.specs.OfficeRequest.{DoesRequest}
use Rattle.role_wire.proofs.Performed.{command_done, command_refused}
use Rattle.role_wire.proofs.Results.{if_err-then, if_ok-then}
use Rattle.role_cli.proofs.work.import_pairs.Goals as goal

-- The office did the command, and this is the text that accepts an import.
pub returns-clause-ok : goal.returns-clause-ok
returns-clause-ok g c =
    let is : c.apply.result ≡ Ok c.in_ok-report.report = search rules in
    let e = c.apply.ensures in
    let accepts : accepted_text (content_of c.args.command.now) (tally_of_report c.in_ok-report.report) ≡ import_text (tally_of_report c.in_ok-report.report) = rw c.requires.1 refl in
    if_ok-then c.import_line.result _ _ c.import_line.ensures.ok (λ line text. (
      import_text (tally_of_report c.in_ok-report.report),
      subst (λ answer. DoesRequest (state g.S.Store) c.args.office.now (Change (content_of c.args.command.now)) answer c.apply.new.self) accepts
          (command_done (state g.S.Store) c.args.office.now c.apply.new.self c.args.command.now c.apply.result e.closed e.answers e.clean e.done e.undone e.crash e.run c.in_ok-report.report is),
      text,
    ))

pub returns-clause-err : goal.returns-clause-err
returns-clause-err g c =
    let is : c.apply.result ≡ Ok c.in_ok-report.report = search rules in
    let e = c.apply.ensures in
    if_err-then c.import_line.result _ _ c.import_line.ensures.err (λ refusal memory. inr (
      memory,
      (
        accepted_text (content_of c.args.command.now) (tally_of_report c.in_ok-report.report),
        command_done (state g.S.Store) c.args.office.now c.apply.new.self c.args.command.now c.apply.result e.closed e.answers e.clean e.done e.undone e.crash e.run c.in_ok-report.report is,
      ),
    ))

pub returns-in_err-report-clause-err : goal.returns-in_err-report-clause-err
returns-in_err-report-clause-err g c =
    let is : c.apply.result ≡ Err c.in_err-report.field-0.0 = search rules in
    let told : c.from_residual.result ≡ Err c.in_err-report.field-0.0 = search rules in
    let e = c.apply.ensures in
    rw told (inl (command_refused (state g.S.Store) c.args.office.now c.apply.new.self c.args.command.now c.apply.result e.closed e.answers e.clean e.done e.undone e.crash e.run c.in_err-report.field-0.0 is))
