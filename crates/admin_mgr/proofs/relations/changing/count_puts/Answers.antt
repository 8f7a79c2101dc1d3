use Rattle.std.proofs.Common.{◌≡◌, ◌∷◌, ◌+◌, ◌∙◌, rules, arith, refl, sym, ap, subst, drop, get_or}
use Rattle.std.proofs.lemmas.List.{drop_more, drop_all}
use Rattle.admin_mgr.specs.RowUpdates.{puts_of}
use Rattle.admin_mgr.proofs.PlanRows.RoomLaws.{AreCounted, counted_none, counted_some}
use Rattle.admin_mgr.proofs.Verdicts.VerdictLaws.{none_unless_some}
use Rattle.admin_mgr.proofs.relations.changing.count_puts.Goals as goal
use Rattle.admin_mgr.proofs.relations.changing.count_puts.Goals.{in-Some, in_default}

pub loop-change-init : goal.loop-change-init
loop-change-init c = record { size = refl; counted = search rules; bounded = search rules }

pub overflow_add-counts : goal.overflow_add-counts
overflow_add-counts c = omega (arith, c.loop-change.invariant.bounded c.number.result, c.loop-change-test.true)

pub loop-change-preserved : goal.loop-change-preserved
loop-change-preserved c =
    let i = c.loop-change.change-index in
    let changes = c.args.changes.now in
    let change = c.change-item.result in
    let is : change ≡ get_or changes i change = search rules in
    let next = drop_more changes i change c.loop-change-test.true ∙ ap (λ first. first ∷ drop (i + 1) changes) (sym is) in
    let before = subst (λ rest. AreCounted c.loop-change.counts i rest changes) next c.loop-change.invariant in
    elim c.match-table_put.branch [
      | in-Some w ↦ rw w.counts-is
          (counted_some c.loop-change.counts i change (drop (i + 1) changes) changes before w.number.result w.in-Some.table (sym c.table_put.ensures ∙ w.in-Some.is) w.number.ensures.number w.number.ensures.below)
      | in_default w ↦ rw w.counts-is
          (counted_none c.loop-change.counts i change (drop (i + 1) changes) changes before (sym c.table_put.ensures ∙ none_unless_some _ w.in_default.not-Some))
    ]

pub returns : goal.returns
returns c n small = omega (arith, c.loop-change.invariant.counted n small, ap (puts_of n) (drop_all c.loop-change.change-index c.args.changes.now (search rules)))
