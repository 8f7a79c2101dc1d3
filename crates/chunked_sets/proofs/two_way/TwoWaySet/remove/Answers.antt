use Rattle.std.proofs.Common.{ap, sym, ◌∙◌}
use Rattle.rbac_sets.specs.Sets.{remove, image}
use Rattle.rbac_sets.specs.SortedSet.{set_of}
use Rattle.chunked_sets.proofs.Turning.{image-remove}
use Rattle.chunked_sets.proofs.two_way.TwoWaySet.remove.Goals as goal

pub invariant_of-self : goal.invariant_of-self
invariant_of-self g c =
    let forward = set_of g.K.Ord.cmp c.self.inside.forward in
    let less = image-remove g.met.K.Ord.total g.met.K.Entry.exact g.met.K.Turned.Ord.total g.met.K.Turned.Entry.exact g.K.Turn.turned g.met.K.Turn.apart forward (g.P.Probe.entry c.args.probe) in
    c.remove.ensures.removed ∙ ap (λ s. remove s (g.Q.Probe.entry c.args.turned_probe)) c.self.invariant
    ∙ ap (remove (image {Q = g.K.Turned.Ord.cmp} g.K.Turn.turned forward)) c.requires ∙ less
    ∙ sym (ap (image {Q = g.K.Turned.Ord.cmp} g.K.Turn.turned) c.remove-2.ensures.removed)
