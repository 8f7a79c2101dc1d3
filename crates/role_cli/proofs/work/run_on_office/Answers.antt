use Rattle.std.proofs.Common.{refl}
use Rattle.sqlite.specs.Held.{state}
use Rattle.role_wire.proofs.Results.{if_err-then}
use Rattle.role_cli.proofs.Working.{import_continues, serve_continues}
use Rattle.role_cli.proofs.work.run_on_office.Goals as goal

pub returns-in-Serve-clause-done : goal.returns-in-Serve-clause-done
returns-in-Serve-clause-done g c = rw c.in-Serve.is c.serve.ensures.done

pub returns-in-Serve-clause-failed : goal.returns-in-Serve-clause-failed
returns-in-Serve-clause-failed g c = rw c.in-Serve.is c.serve.ensures.failed

pub returns-in-Serve-clause-continues : goal.returns-in-Serve-clause-continues
returns-in-Serve-clause-continues g c =
    serve_continues (state g.S.Store) c.in-Serve.limit c.in-Serve.port _ _ c.args.office.now c.serve.new.office _ (g.W.Sink.written c.args.out.now) (g.W.Sink.written c.serve.new.out) c.serve.result c.serve.ensures.done c.serve.ensures.failed

pub returns-in-Import-clause-continues : goal.returns-in-Import-clause-continues
returns-in-Import-clause-continues g c =
    import_continues (state g.S.Store) _ c.args.office.now c.import.new.office _ _ (g.W.Sink.written c.args.out.now) (g.W.Sink.written c.import.new.out) c.import.result c.import.ensures.ok c.import.ensures.err

-- ---- why the output was not written whole

pub returns-in-Export-clause-failed : goal.returns-in-Export-clause-failed
returns-in-Export-clause-failed g c = rw c.in-Export.is (if_err-then c.export.result _ _ c.export.ensures.part (λ failure (why, part). (why, part, refl)))

pub returns-in-Report-clause-failed : goal.returns-in-Report-clause-failed
returns-in-Report-clause-failed g c = rw c.in-Report.is (if_err-then c.report.result _ _ c.report.ensures.part (λ failure (why, part). (why, part, refl)))

pub returns-in-Check-clause-failed : goal.returns-in-Check-clause-failed
returns-in-Check-clause-failed g c = rw c.in-Check.is (if_err-then c.say.result _ _ c.say.ensures.part (λ failure (is, has, part). (is, has, part, refl)))
