use Rattle.role_wire.proofs.Commanded as commanded
use Rattle.role_wire.proofs.LineCommands as running
use Rattle.role_wire.proofs.laws.lines_run_commands.Goals as goal

pub returns-clause-commands : goal.returns-clause-commands
returns-clause-commands c = commanded.lines_have_commands

pub returns-clause-state : goal.returns-clause-state
returns-clause-state c = running.lines_run_commands

pub returns-clause-answers : goal.returns-clause-answers
returns-clause-answers c = running.lines_tell_verdicts

pub returns-clause-asked : goal.returns-clause-asked
returns-clause-asked c = running.lines_run_asked

pub returns-clause-same : goal.returns-clause-same
returns-clause-same c = running.commands_run_asked
