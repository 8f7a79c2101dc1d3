use Rattle.std.proofs.Common.{subst}
use Rattle.std.specs.Prelude.{IfErr}
use Rattle.review_mgr.specs.Report.{report}
use Rattle.role_cli.specs.Environment.{HasFailed}
use Rattle.role_cli.specs.Work.{IsUnwritten, WritesPart}
use Rattle.role_cli.proofs.Results.{unwritten}
use Rattle.role_cli.proofs.work.report.Goals as goal

-- A part of the report was written, because an allocation or the output failed.
pub returns-in-Ok-clause-part : goal.returns-in-Ok-clause-part
returns-in-Ok-clause-part g c =
    let it = c.report_roles.ensures in
    subst (λ facts. IfErr c.as_failure.result (λ failure. IsUnwritten failure (HasFailed (g.W.Sink.failed c.args.out.now) (g.W.Sink.failed c.report_roles.new.sink) (g.W.Sink.idle c.args.out.now) (g.W.Sink.idle c.report_roles.new.sink)) × WritesPart (report facts) (g.W.Sink.written c.args.out.now) (g.W.Sink.written c.report_roles.new.sink)))
    (c.in-Ok.ensures.open c.requires) (unwritten c.report_roles.result c.as_failure.result _ _ c.as_failure.ensures it.part it.cause it.store)
