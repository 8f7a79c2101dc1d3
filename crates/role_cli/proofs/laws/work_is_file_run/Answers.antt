use Rattle.role_cli.proofs.FileRuns.{replay_is_file_run, work_is_file_run}
use Rattle.role_cli.proofs.laws.work_is_file_run.Goals as goal

pub returns-clause-done : goal.returns-clause-done
returns-clause-done g c = work_is_file_run g.D.Disk c.calls.ensures.left c.lives.ensures.last _

pub returns-clause-failed : goal.returns-clause-failed
returns-clause-failed g c failure = work_is_file_run g.D.Disk c.calls.ensures.left c.lives.ensures.last _

pub returns-clause-replay : goal.returns-clause-replay
returns-clause-replay g c = replay_is_file_run g.D.Disk c.calls.ensures.left c.lives.ensures.last
