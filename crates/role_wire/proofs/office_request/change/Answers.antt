use Rattle.std.proofs.Common.{◌≡◌, Ok, Err, IfErr, rules, subst, sym}
use Rattle.sqlite.specs.Held.{state}
use Rattle.rbac_sets.specs.CommandContent.{content_of}
use Rattle.role_json.specs.RequestContent.{Change}
use Rattle.role_wire.specs.OfficeRequest.{RefusesRequest, DoesRequest}
use Rattle.role_wire.proofs.Performed.{command_done, command_refused}
use Rattle.role_wire.proofs.office_request.change.Goals as goal

pub returns-in_err-report-clause-refused : goal.returns-in_err-report-clause-refused
returns-in_err-report-clause-refused g c =
    let is : c.apply.result ≡ Err c.in_err-report.field-0.0 = search rules in
    let told : c.from_residual.result ≡ Err c.in_err-report.field-0.0 = search rules in
    let e = c.apply.ensures in
    subst (λ r. IfErr r (λ refusal. RefusesRequest (state g.S.Store) c.args.office.now (Change (content_of c.args.command.now)) refusal c.apply.new.self)) (sym told)
    (command_refused (state g.S.Store) c.args.office.now c.apply.new.self c.args.command.now c.apply.result e.closed e.answers e.clean e.done e.undone e.crash e.run c.in_err-report.field-0.0 is)

pub returns-clause-done : goal.returns-clause-done
returns-clause-done g c =
    let is : c.apply.result ≡ Ok c.in_ok-report.report = search rules in
    let e = c.apply.ensures in
    subst (λ text. DoesRequest (state g.S.Store) c.args.office.now (Change (content_of c.args.command.now)) text c.apply.new.self) (sym c.verdict_on.ensures.text)
    (command_done (state g.S.Store) c.args.office.now c.apply.new.self c.args.command.now c.apply.result e.closed e.answers e.clean e.done e.undone e.crash e.run c.in_ok-report.report is)
