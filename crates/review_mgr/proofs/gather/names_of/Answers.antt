use Rattle.std.proofs.Common.{rules, ◌∙◌}
use Rattle.rbac_sets.specs.Sets.{Cardinality, cardinality_cmp}
use Rattle.rbac_sets.specs.SortedSet.{set_of}
use Rattle.review_mgr.proofs.gather.names_of.Goals as goal

pub returns-clause-ok : goal.returns-clause-ok
returns-clause-ok c =
    c.gather_all.ensures.ok (set_of cardinality_cmp c.args.cardinalities.now) (c.of.ensures ∙ c.as_slice.ensures) (λ (entry : Cardinality). entry.0) (λ x p k. search rules)
