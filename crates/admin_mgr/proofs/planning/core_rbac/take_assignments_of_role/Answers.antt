use Rattle.std.proofs.Common.{map, filter, sym, ◌∙◌, ap}
use Rattle.rbac_sets.specs.Sets.{Pair, members, same_name}
use Rattle.rbac_sets.specs.declared.row.Row.TheVariants.{PairRow}
use Rattle.rbac_sets.specs.declared.row.TheConstants.Row.{ASSIGNMENT}
use Rattle.rbac_sets.specs.declared.row.Change.TheVariants.{Take}
use Rattle.admin_mgr.proofs.PlanRows.TurnedRuns.{map_twice, pairs_by_second}
use Rattle.admin_mgr.proofs.planning.core_rbac.take_assignments_of_role.Goals as goal

pub returns-clause-ok : goal.returns-clause-ok
returns-clause-ok c =
    let run = c.with_first.ensures ∙ ap (λ s. filter (λ (pair : Pair). same_name pair.0 c.args.role.now) (members s)) c.assignments_by_role.ensures in
    let rows = ap (map (λ (x : Pair). Take (PairRow ASSIGNMENT x.0 x.1))) (sym (pairs_by_second c.args.state.now.facts.assignments c.args.role.now))
    ∙ map_twice (λ (x : Pair). Take (PairRow ASSIGNMENT x.0 x.1)) _ _ ∙ ap (map (λ (x : Pair). Take (PairRow ASSIGNMENT x.1 x.0))) (sym run) in
    rw rows c.take_turned_pairs.ensures.ok
