use Rattle.std.proofs.Common.{subst}
use Rattle.std.specs.Prelude.{IfErr}
use Rattle.role_csv.specs.Export.{exported}
use Rattle.role_cli.specs.Environment.{HasFailed}
use Rattle.role_cli.specs.Work.{IsUnwritten, WritesPart}
use Rattle.role_cli.proofs.Results.{unwritten}
use Rattle.role_cli.proofs.work.export.Goals as goal

-- A part of the export was written, because an allocation or the output failed.
pub returns-in-Ok-clause-part : goal.returns-in-Ok-clause-part
returns-in-Ok-clause-part g c =
    let it = c.write_assignments.ensures in
    subst (λ facts. IfErr c.as_failure.result (λ failure. IsUnwritten failure (HasFailed (g.W.Sink.failed c.args.out.now) (g.W.Sink.failed c.write_assignments.new.sink) (g.W.Sink.idle c.args.out.now) (g.W.Sink.idle c.write_assignments.new.sink)) × WritesPart (exported facts) (g.W.Sink.written c.args.out.now) (g.W.Sink.written c.write_assignments.new.sink)))
    (c.in-Ok.ensures.open c.requires) (unwritten c.write_assignments.result c.as_failure.result _ _ c.as_failure.ensures it.part it.cause it.store)
