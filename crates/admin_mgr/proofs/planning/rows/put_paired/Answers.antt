use Rattle.std.proofs.Common.{◌++◌, ◌∷◌, [], ap, refl, ◌∙◌}
use Rattle.rbac_sets.specs.Sets.{Bytes}
use Rattle.rbac_sets.specs.declared.row.Row.TheVariants.{PairRow}
use Rattle.rbac_sets.specs.declared.row.Change.TheVariants.{Put}
use Rattle.admin_mgr.proofs.PlanRows.ListLaws.{each_map, listed_more, listed_all}
use Rattle.admin_mgr.proofs.planning.rows.put_paired.Goals as goal

pub loop-other-init : goal.loop-other-init
loop-other-init c = refl

pub loop-other-preserved : goal.loop-other-preserved
loop-other-preserved c =
    listed_more _ _ (each_map (λ (x : Bytes). Put (PairRow c.args.kind c.args.name.now x))) _ _ _ c.args.others.now c.loop-other.other-index c.other-item.result c.loop-other-test.true c.other-item.is c.loop-other.invariant
    (c.in_ok-put.ensures.ok ∙ ap (λ row. c.loop-other.changes.items ++ Put row ∷ []) c.in_ok-pair_row.ensures.ok)

pub returns-clause-ok : goal.returns-clause-ok
returns-clause-ok c = listed_all _ _ (each_map (λ (x : Bytes). Put (PairRow c.args.kind c.args.name.now x))) _ _ _ c.loop-other.other-index c.loop-other-test.false c.loop-other.invariant
