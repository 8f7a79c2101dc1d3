use Rattle.std.proofs.Common.{◌∙◌, arith}
use Rattle.sqlite.specs.Held.{state}
use Rattle.role_cli.specs.ServedConnections.{status_in}
use Rattle.role_cli.proofs.Served.{next_of_port, saturated}
use Rattle.role_cli.proofs.machine.MachineAccept.serve_next.Goals as goal

pub returns-clause-served : goal.returns-clause-served
returns-clause-served g c =
    let counted = c.saturating_add-self.ensures ∙ saturated (c.args.self.now).accepted (omega arith) in
    next_of_port (state g.S.Store) (c.args.self.now).port (c.args.self.now).accepted c.saturating_add-self.result (c.args.self.now).failed _ _ (status_in c.serve_stream.result) counted c.serve_stream.ensures.served
