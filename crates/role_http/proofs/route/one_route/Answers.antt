use Rattle.matchit.proofs.OnLiterals.{matchit_on_literals}
use Rattle.role_http.proofs.route.one_route.Goals as goal

pub returns-clause-ok : goal.returns-clause-ok
unfolding matchit_on_literals
returns-clause-ok c =
    let inserted = c.in-Ok.ensures in
    rw c.new-router.ensures at inserted.1
