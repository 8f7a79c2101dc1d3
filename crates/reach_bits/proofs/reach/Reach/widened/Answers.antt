use Rattle.std.proofs.Common.{◌∙◌, ap}
use Rattle.reach_bits.specs.Graph.{Graph, has_edge}
use Rattle.reach_bits.proofs.Reaching.{reach_widened}
use Rattle.reach_bits.proofs.reach.Reach.widened.Goals as goal

pub invariant_of-result : goal.invariant_of-result
invariant_of-result c =
    reach_widened c.self.inside.edges.items c.self.inside.closure.items c.in_ok-widened.field-0.items c.in_ok-widened-2.field-0.items c.in_ok-empty.field-0 c.in_ok-empty-2.field-0
    c.in_ok-vec.field-0.len c.args.words c.self.invariant.closed
    (λ a b. c.in_ok-widened.ensures.same a b ∙ ap (λ (g : Graph). has_edge g a b) c.deref.ensures.value)
    (λ a b. c.in_ok-widened-2.ensures.same a b ∙ ap (λ (g : Graph). has_edge g a b) c.deref-2.ensures.value)
    c.in_ok-widened.ensures.wide c.in_ok-widened-2.ensures.wide c.in_ok-empty.ensures.words c.in_ok-empty-2.ensures.words c.in_ok-vec.ensures.len c.requires.most
