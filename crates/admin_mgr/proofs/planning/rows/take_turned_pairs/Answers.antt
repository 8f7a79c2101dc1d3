use Rattle.std.proofs.Common.{◌++◌, ◌∷◌, [], ap, ◌∙◌}
use Rattle.rbac_sets.specs.Sets.{Pair}
use Rattle.rbac_sets.specs.declared.row.Row.TheVariants.{PairRow}
use Rattle.rbac_sets.specs.declared.row.Change.TheVariants.{Take}
use Rattle.admin_mgr.proofs.PlanRows.ListLaws.{each_map, listed_next, listed_whole}
use Rattle.admin_mgr.proofs.planning.rows.take_turned_pairs.Goals as goal

pub loop-pair-preserved : goal.loop-pair-preserved
loop-pair-preserved c =
    listed_next _ _ (each_map (λ (x : Pair). Take (PairRow c.args.kind x.1 x.0))) _ _ _ c.args.pairs.now _ _ c.in-Some.pair.now c.in-Some.ensures.steps c.loop-pair.invariant
    (c.in_ok-take.ensures.ok ∙ ap (λ row. c.loop-pair.changes.items ++ Take row ∷ []) c.in_ok-pair_row.ensures.ok)

pub returns-clause-ok : goal.returns-clause-ok
returns-clause-ok c = listed_whole _ _ (each_map (λ (x : Pair). Take (PairRow c.args.kind x.1 x.0))) _ _ c.args.pairs.now _ c.in-None.ensures.steps.0 c.loop-pair.invariant
