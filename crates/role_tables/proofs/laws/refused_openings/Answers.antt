use Rattle.role_tables.proofs.Reading.GoodState.{good_rows_are_found, found_alone}
use Rattle.role_tables.proofs.Reading.Refused.{refused_find_none}
use Rattle.role_tables.proofs.laws.refused_openings.Goals as goal

pub returns-clause-none : goal.returns-clause-none
returns-clause-none c = refused_find_none

pub returns-clause-good : goal.returns-clause-good
returns-clause-good c = good_rows_are_found

pub returns-clause-alone : goal.returns-clause-alone
returns-clause-alone c = found_alone
