use Rattle.std.proofs.Common.{◌≤◌, ◌∙◌, ap, arith, length, get_or}
use Rattle.admin_mgr.specs.Run.{tally}
use Rattle.admin_mgr.proofs.Imports.ImportLaws.{import_records}
use Rattle.admin_mgr.proofs.Imports.ImportSteps.{begins, goes_on_at, none_left, ends_with_changes, ends_with_report}
use Rattle.admin_mgr.proofs.planning.importing.import.Goals as goal

pub loop-i-init : goal.loop-i-init
loop-i-init c = begins c.args.state.now.facts c.recall_good.ensures c.args.pairs.now.items c.new-imported.result c.new-imported.ensures

pub overflow_cast-i : goal.overflow_cast-i
overflow_cast-i c =
    let few : length c.args.pairs.now.items ≤ 10000 = import_records c.args.state.now.facts c.args.pairs.now c.requires in
    omega (arith, few)

pub overflow_add-i : goal.overflow_add-i
overflow_add-i c =
    let few : length c.args.pairs.now.items ≤ 10000 = import_records c.args.state.now.facts c.args.pairs.now c.requires in
    omega (arith, few)

pub take-requires-clause-few : goal.take-requires-clause-few
take-requires-clause-few c =
    let few : length c.args.pairs.now.items ≤ 10000 = import_records c.args.state.now.facts c.args.pairs.now c.requires in
    let assigned = c.loop-i.invariant.few_assigned in
    let already = c.loop-i.invariant.few_already in
    (omega (arith, few, assigned), omega (arith, few, already))

pub loop-i-preserved : goal.loop-i-preserved
loop-i-preserved c =
    goes_on_at c.args.state.now.facts c.args.pairs.now.items c.loop-i.i c.pair-item.result c.loop-i.imported c.take.new.self (omega arith)
    (c.pair-item.is ∙ ap (λ pairs. get_or pairs c.loop-i.i c.pair-item.result) c.deref-pair-items.ensures.value) c.loop-i.invariant c.in_ok-take.ensures.ok

pub returns-clause-changes : goal.returns-clause-changes
returns-clause-changes c =
    ends_with_changes c.args.state.now.facts c.args.pairs.now.items c.loop-i.i c.loop-i.imported
    (none_left c.args.state.now.facts c.args.pairs.now.items c.loop-i.i c.loop-i.imported (omega arith) c.loop-i.invariant)

pub returns-clause-report : goal.returns-clause-report
unfolding tally
returns-clause-report c =
    ends_with_report c.args.state.now.facts c.args.pairs.now.items c.loop-i.i c.loop-i.imported
    (none_left c.args.state.now.facts c.args.pairs.now.items c.loop-i.i c.loop-i.imported (omega arith) c.loop-i.invariant)
