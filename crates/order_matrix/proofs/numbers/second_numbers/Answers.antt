use Rattle.rbac_sets.specs.Sets.{Pair}
use Rattle.order_matrix.specs.Table.{number_in}
use Rattle.order_matrix.proofs.Mapped.{mapped_next, mapped_whole}
use Rattle.order_matrix.proofs.numbers.second_numbers.Goals as goal

pub loop-pair-preserved : goal.loop-pair-preserved
loop-pair-preserved c =
    mapped_next (λ (pair : Pair). number_in c.args.names.now pair.1) _ _ c.in-Some.pair.now c.in-Some.ensures.steps
    c.loop-pair.numbers.items c.number.result c.push.new.self.items _ c.number.ensures.number c.loop-pair.invariant c.in_ok-push.ensures.items

pub returns-clause-ok : goal.returns-clause-ok
returns-clause-ok c = mapped_whole (λ (pair : Pair). number_in c.args.names.now pair.1) _ c.in-None.ensures.steps.0 c.loop-pair.numbers.items _ c.loop-pair.invariant
