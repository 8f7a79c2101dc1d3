use Rattle.std.proofs.Common.{◌≡◌, false, rules, sym, ap, subst, ◌∙◌}
use Rattle.rbac_sets.specs.Sets.{contains}
use Rattle.rbac_sets.specs.declared.row.Row.TheVariants.{SetRow}
use Rattle.rbac_sets.specs.declared.row.TheConstants.Row.{STATIC_CARDINALITY, DYNAMIC_CARDINALITY}
use Rattle.admin_mgr.specs.declared.relations.gathered.StoredSets.TheInside.{Inside}
use Rattle.admin_mgr.specs.private.OneRow.{with_row, has_key}
use Rattle.admin_mgr.specs.StoredSetsView.{stored_sets_of}
use Rattle.admin_mgr.proofs.StoredRows.KeyLaws.{no_static_key, no_dynamic_key}
use Rattle.admin_mgr.proofs.relations.gathered.StoredSets.put.Goals as goal

pub put-requires-in-SetRow-eq1-default-default : goal.put-requires-in-SetRow-eq1-default-default
put-requires-in-SetRow-eq1-default-default c =
    let row = c.in-SetRow-eq1-default-default.is ∙ ap (λ k. SetRow k c.in-SetRow-eq1-default-default.name c.in-SetRow-eq1-default-default.n) c.in-SetRow-eq1-default-default.field-0-test in
    let same : has_key (stored_sets_of c.self.inside) (SetRow STATIC_CARDINALITY c.in-SetRow-eq1-default-default.name c.in-SetRow-eq1-default-default.n) ≡ has_key c.args.self.now c.args.row =
    λ i. has_key (c.self.view_is i) (sym row i) in
    subst (λ (inside : Inside). contains inside.relations.facts.ssd.cardinalities (c.in-SetRow-eq1-default-default.name, c.in-SetRow-eq1-default-default.n) ≡ false) (sym c.self-inside.view_is)
    (no_static_key (stored_sets_of c.self.inside) c.in-SetRow-eq1-default-default.name c.in-SetRow-eq1-default-default.n (same ∙ c.requires))

pub put-requires-in-SetRow-eq2-default-default : goal.put-requires-in-SetRow-eq2-default-default
put-requires-in-SetRow-eq2-default-default c =
    let row = c.in-SetRow-eq2-default-default.is ∙ ap (λ k. SetRow k c.in-SetRow-eq2-default-default.name c.in-SetRow-eq2-default-default.n) c.in-SetRow-eq2-default-default.field-0-test in
    let same : has_key (stored_sets_of c.self.inside) (SetRow DYNAMIC_CARDINALITY c.in-SetRow-eq2-default-default.name c.in-SetRow-eq2-default-default.n) ≡ has_key c.args.self.now c.args.row =
    λ i. has_key (c.self.view_is i) (sym row i) in
    subst (λ (inside : Inside). contains inside.relations.facts.dsd.cardinalities (c.in-SetRow-eq2-default-default.name, c.in-SetRow-eq2-default-default.n) ≡ false) (sym c.self-inside.view_is)
    (no_dynamic_key (stored_sets_of c.self.inside) c.in-SetRow-eq2-default-default.name c.in-SetRow-eq2-default-default.n (same ∙ c.requires))

pub returns-in-PairRow-eq3-default-default-clause-ok : goal.returns-in-PairRow-eq3-default-default-clause-ok
unfolding with_row
returns-in-PairRow-eq3-default-default-clause-ok c = rw (sym c.self.view_is) (search rules)

pub returns-in-PairRow-eq4-default-default-clause-ok : goal.returns-in-PairRow-eq4-default-default-clause-ok
unfolding with_row
returns-in-PairRow-eq4-default-default-clause-ok c = rw (sym c.self.view_is) (search rules)

pub returns-in-PairRow-eq2-default-default-clause-ok : goal.returns-in-PairRow-eq2-default-default-clause-ok
unfolding with_row
returns-in-PairRow-eq2-default-default-clause-ok c = rw (sym c.self.view_is) (search rules)

pub returns-in-PairRow-eq7-default-default-clause-ok : goal.returns-in-PairRow-eq7-default-default-clause-ok
unfolding with_row
returns-in-PairRow-eq7-default-default-clause-ok c = rw (sym c.self.view_is) (search rules)

pub returns-in-GrantRow-clause-ok : goal.returns-in-GrantRow-clause-ok
unfolding with_row
returns-in-GrantRow-clause-ok c = rw (sym c.self.view_is) (search rules)
