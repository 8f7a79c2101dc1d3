use Rattle.bit_tables.specs.Tables.{holds}
use Rattle.access_index.proofs.AuthorizedLaws.{reaches_all, reaches_first, reaches_more}
use Rattle.access_index.proofs.index.AccessIndex.with_juniors.Goals as goal

pub loop-number-init : goal.loop-number-init
loop-number-init c = reaches_first c.args.self.now.juniors.items (holds c.args.numbers.now) c.new-row.result c.new-row.ensures

pub loop-number-preserved : goal.loop-number-preserved
loop-number-preserved c =
    let next = c.in-Some.ensures.some in
    reaches_more c.args.self.now.juniors.items (holds c.args.numbers.now) c.loop-number.from c.in-Some.number c.loop-number.row c.put.new.self c.put_juniors.new.row
    next.0 next.2 next.3 c.in_ok-put.ensures.there c.put.ensures.others c.in_ok-put_juniors.ensures c.loop-number.invariant

pub returns : goal.returns
returns c = reaches_all c.args.self.now.juniors.items (holds c.args.numbers.now) c.loop-number.from c.loop-number.row c.in_default.ensures.none c.loop-number.invariant
