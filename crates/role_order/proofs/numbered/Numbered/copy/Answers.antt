use Rattle.std.proofs.Common.{◌↔◌, subst}
use Rattle.rbac_sets.specs.Sets.{Bytes, cardinality_cmp}
use Rattle.rbac_sets.specs.SortedSet.{set_of}
use Rattle.role_order.specs.NumberedEdges.{NumberedEdges}
use Rattle.role_order.specs.private.Numbered.{HasNamedEdge}
use Rattle.role_order.proofs.Numbering.{NamedEdge, copy_kept, copy_named}
use Rattle.role_order.proofs.numbered.Numbered.copy.Goals as goal

pub invariant_of-result : goal.invariant_of-result
invariant_of-result c =
    copy_kept (set_of cardinality_cmp c.self.inside.numbers) (set_of cardinality_cmp c.in_ok-copy.field-0) c.self.inside.reach c.in_ok-copy-2.field-0 c.in_ok-copy.ensures.ok c.in_ok-copy-2.ensures.same
    c.in_ok-copy-2.ensures.room c.self.invariant

pub returns-clause-edges : goal.returns-clause-edges
returns-clause-edges c =
    subst (λ (e : NumberedEdges). (a b : Bytes) → NamedEdge (set_of cardinality_cmp c.in_ok-copy.field-0) c.in_ok-copy-2.field-0 a b ↔ HasNamedEdge e a b) c.self.view_is
    (copy_named (set_of cardinality_cmp c.self.inside.numbers) (set_of cardinality_cmp c.in_ok-copy.field-0) c.self.inside.reach c.in_ok-copy-2.field-0 c.in_ok-copy.ensures.ok c.in_ok-copy-2.ensures.same)
