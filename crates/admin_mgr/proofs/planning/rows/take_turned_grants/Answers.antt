use Rattle.std.proofs.Common.{◌++◌, ◌∷◌, [], ap, ◌∙◌}
use Rattle.rbac_sets.specs.Sets.{Triple}
use Rattle.rbac_sets.specs.declared.row.Row.TheVariants.{GrantRow}
use Rattle.rbac_sets.specs.declared.row.Change.TheVariants.{Take}
use Rattle.admin_mgr.proofs.PlanRows.ListLaws.{each_map, listed_next, listed_whole}
use Rattle.admin_mgr.proofs.planning.rows.take_turned_grants.Goals as goal

pub loop-grant-preserved : goal.loop-grant-preserved
loop-grant-preserved c =
    listed_next _ _ (each_map (λ (x : Triple). Take (GrantRow x.1 x.2 x.0))) _ _ _ c.args.grants.now _ _ c.in-Some.grant.now c.in-Some.ensures.steps c.loop-grant.invariant
    (c.in_ok-take.ensures.ok ∙ ap (λ row. c.loop-grant.changes.items ++ Take row ∷ []) c.in_ok-grant_row.ensures.ok)

pub returns-clause-ok : goal.returns-clause-ok
returns-clause-ok c = listed_whole _ _ (each_map (λ (x : Triple). Take (GrantRow x.1 x.2 x.0))) _ _ c.args.grants.now _ c.in-None.ensures.steps.0 c.loop-grant.invariant
