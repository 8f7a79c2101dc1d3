use Rattle.rbac_sets.specs.Sets.{cardinality_cmp}
use Rattle.rbac_sets.specs.SortedSet.{set_of}
use Rattle.role_order.proofs.Numbering.{numbered_none, no_edge_named}
use Rattle.role_order.proofs.numbered.Numbered.new.Goals as goal

pub invariant_of-result : goal.invariant_of-result
invariant_of-result c = numbered_none (set_of cardinality_cmp c.new.result) c.new-2.result c.new.ensures c.new-2.ensures

pub returns : goal.returns
returns c = λ a b e. no_edge_named (set_of cardinality_cmp c.new.result) c.new-2.result c.new-2.ensures a b e
