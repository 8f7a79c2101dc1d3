use Rattle.std.proofs.Common.{◌≡◌, nat_lt, subst, rules}
use Rattle.admin_mgr.specs.RowChecks.{is_exceeded}
use Rattle.admin_mgr.specs.StoredSets.{StoredSets}
use Rattle.admin_mgr.proofs.relations.gathered.StoredSets.is_exceeded.Goals as goal

pub returns-in-Edge : goal.returns-in-Edge
returns-in-Edge c =
    subst (λ (g : StoredSets). nat_lt c.limit-limit.result c.len-in-Edge.result ≡ is_exceeded g.facts c.args.kind) c.self.view_is (search rules)

pub returns-in-Grant : goal.returns-in-Grant
returns-in-Grant c =
    subst (λ (g : StoredSets). nat_lt c.limit-limit.result c.len-in-Grant.result ≡ is_exceeded g.facts c.args.kind) c.self.view_is (search rules)

pub returns-in-Assignment : goal.returns-in-Assignment
returns-in-Assignment c =
    subst (λ (g : StoredSets). nat_lt c.limit-limit.result c.len-in-Assignment.result ≡ is_exceeded g.facts c.args.kind) c.self.view_is (search rules)

pub returns-in-Session : goal.returns-in-Session
returns-in-Session c =
    subst (λ (g : StoredSets). nat_lt c.limit-limit.result c.len-in-Session.result ≡ is_exceeded g.facts c.args.kind) c.self.view_is (search rules)
