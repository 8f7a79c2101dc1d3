use Rattle.role_cli.proofs.FileWork.{migration_stored, new_stored, refused_stored, work_stored}
use Rattle.role_cli.proofs.laws.work_is_stored.Goals as goal

pub returns-clause-done : goal.returns-clause-done
returns-clause-done g c = work_stored g.D.Disk _

pub returns-clause-failed : goal.returns-clause-failed
returns-clause-failed g c failure = work_stored g.D.Disk _

pub returns-clause-unopened : goal.returns-clause-unopened
returns-clause-unopened g c = refused_stored g.D.Disk

pub returns-clause-created : goal.returns-clause-created
returns-clause-created g c = new_stored g.D.Disk

pub returns-clause-migrated : goal.returns-clause-migrated
returns-clause-migrated g c = migration_stored g.D.Disk
