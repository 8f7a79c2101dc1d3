use Rattle.role_cli.proofs.Acknowledged.{deassignment_stays, lines_are_acknowledged, revocation_stays}
use Rattle.role_cli.proofs.laws.acknowledged_stays.Goals as goal

pub returns-clause-lines : goal.returns-clause-lines
returns-clause-lines c = lines_are_acknowledged

pub returns-clause-deassigned : goal.returns-clause-deassigned
returns-clause-deassigned c = deassignment_stays c.file_lives.ensures.deassigned

pub returns-clause-revoked : goal.returns-clause-revoked
returns-clause-revoked c = revocation_stays c.file_lives.ensures.revoked
