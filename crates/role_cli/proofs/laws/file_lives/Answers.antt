use Rattle.role_cli.proofs.FileRuns.{deassigned_in_file, file_lives, revoked_in_file}
use Rattle.role_cli.proofs.laws.file_lives.Goals as goal

pub returns-clause-lives : goal.returns-clause-lives
returns-clause-lives c = file_lives c.migrated_good.ensures c.lives.ensures.last

pub returns-clause-deassigned : goal.returns-clause-deassigned
returns-clause-deassigned c = deassigned_in_file (file_lives c.migrated_good.ensures c.lives.ensures.last) c.lives.ensures.deassigned

pub returns-clause-revoked : goal.returns-clause-revoked
returns-clause-revoked c = revoked_in_file (file_lives c.migrated_good.ensures c.lives.ensures.last) c.lives.ensures.revoked
