use Rattle.std.proofs.Common.{map, filter, sym, ◌∙◌, ap}
use Rattle.rbac_sets.specs.Sets.{Triple, members, same_name}
use Rattle.rbac_sets.specs.declared.row.Row.TheVariants.{GrantRow}
use Rattle.rbac_sets.specs.declared.row.Change.TheVariants.{Take}
use Rattle.admin_mgr.proofs.PlanRows.TurnedRuns.{map_twice, triples_by_third}
use Rattle.admin_mgr.proofs.planning.core_rbac.take_grants_of_role.Goals as goal

pub returns-clause-ok : goal.returns-clause-ok
returns-clause-ok c =
    let run = c.with_first.ensures ∙ ap (λ s. filter (λ (grant : Triple). same_name grant.0 c.args.role.now) (members s)) c.grants_by_role.ensures in
    let rows = ap (map (λ (x : Triple). Take (GrantRow x.0 x.1 x.2))) (sym (triples_by_third c.args.state.now.facts.grants c.args.role.now))
    ∙ map_twice (λ (x : Triple). Take (GrantRow x.0 x.1 x.2)) _ _ ∙ ap (map (λ (x : Triple). Take (GrantRow x.1 x.2 x.0))) (sym run) in
    rw rows c.take_turned_grants.ensures.ok
