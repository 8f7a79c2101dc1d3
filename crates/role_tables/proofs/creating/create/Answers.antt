use Rattle.role_tables.proofs.creating.create.Goals as goal

pub returns-clause-crash : goal.returns-clause-crash
returns-clause-crash g c = rw c.empty.ensures at c.create_with.ensures.crash

pub returns-clause-run : goal.returns-clause-run
returns-clause-run g c = rw c.empty.ensures at c.create_with.ensures.run

pub returns-clause-ok : goal.returns-clause-ok
returns-clause-ok g c = rw c.empty.ensures at c.create_with.ensures.ok

pub returns-clause-untouched : goal.returns-clause-untouched
returns-clause-untouched g c = rw c.empty.ensures at c.create_with.ensures.untouched
