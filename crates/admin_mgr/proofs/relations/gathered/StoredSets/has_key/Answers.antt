use Rattle.std.proofs.Common.{◌≡◌, subst, rules}
use Rattle.admin_mgr.specs.StoredSets.{StoredSets}
use Rattle.admin_mgr.specs.private.OneRow.{has_key}
use Rattle.admin_mgr.proofs.relations.gathered.StoredSets.has_key.Goals as goal

pub returns-in-PairRow-eq3-default-default : goal.returns-in-PairRow-eq3-default-default
unfolding has_key
returns-in-PairRow-eq3-default-default c =
    subst (λ (g : StoredSets). c.contains-in-PairRow-eq3-default-default.result ≡ has_key g c.args.row.now) c.self.view_is (search rules)

pub returns-in-PairRow-eq4-default-default : goal.returns-in-PairRow-eq4-default-default
unfolding has_key
returns-in-PairRow-eq4-default-default c =
    subst (λ (g : StoredSets). c.contains-in-PairRow-eq4-default-default.result ≡ has_key g c.args.row.now) c.self.view_is (search rules)

pub returns-in-PairRow-eq2-default-default : goal.returns-in-PairRow-eq2-default-default
unfolding has_key
returns-in-PairRow-eq2-default-default c =
    subst (λ (g : StoredSets). c.contains-in-PairRow-eq2-default-default.result ≡ has_key g c.args.row.now) c.self.view_is (search rules)

pub returns-in-PairRow-eq7-default-default : goal.returns-in-PairRow-eq7-default-default
unfolding has_key
returns-in-PairRow-eq7-default-default c =
    subst (λ (g : StoredSets). c.contains-in-PairRow-eq7-default-default.result ≡ has_key g c.args.row.now) c.self.view_is (search rules)

pub returns-in-GrantRow : goal.returns-in-GrantRow
unfolding has_key
returns-in-GrantRow c =
    subst (λ (g : StoredSets). c.contains-in-GrantRow.result ≡ has_key g c.args.row.now) c.self.view_is (search rules)
