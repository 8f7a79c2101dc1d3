use Rattle.role_tables.proofs.OfficeHistory.Calls.{one_call, earlier_are_possible, so_far_left, open_leaves, open_goes_on, closed_stays, so_far_goes_on}
use Rattle.role_tables.proofs.laws.calls.Goals as goal

pub returns-clause-one : goal.returns-clause-one
returns-clause-one c = one_call

pub returns-clause-earlier : goal.returns-clause-earlier
returns-clause-earlier c = earlier_are_possible

pub returns-clause-left : goal.returns-clause-left
returns-clause-left c = so_far_left

pub returns-clause-open : goal.returns-clause-open
returns-clause-open c = open_leaves

pub returns-clause-goes_on : goal.returns-clause-goes_on
returns-clause-goes_on c = open_goes_on

pub returns-clause-closed : goal.returns-clause-closed
returns-clause-closed c = closed_stays

pub returns-clause-so_far : goal.returns-clause-so_far
returns-clause-so_far c = so_far_goes_on
