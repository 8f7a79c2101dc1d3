use Rattle.reach_bits.proofs.Reaching.{reach_none}
use Rattle.reach_bits.proofs.reach.Reach.new.Goals as goal

pub invariant_of-result : goal.invariant_of-result
invariant_of-result c =
    reach_none c.new.result.items c.new-2.result.items c.new-3.result c.new-4.result c.new-5.result.len c.new.ensures.items c.new-2.ensures.items c.new-3.ensures c.new-4.ensures c.new-5.ensures.len
