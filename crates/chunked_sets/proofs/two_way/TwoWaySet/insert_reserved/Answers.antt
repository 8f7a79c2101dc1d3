use Rattle.std.proofs.Common.{ap, sym, ◌∙◌}
use Rattle.rbac_sets.specs.Sets.{contains, insert, image}
use Rattle.rbac_sets.specs.SortedSet.{set_of}
use Rattle.chunked_sets.proofs.Turning.{contains-image, image-insert}
use Rattle.chunked_sets.proofs.two_way.TwoWaySet.insert_reserved.Goals as goal

pub insert_reserved-requires-clause-absent : goal.insert_reserved-requires-clause-absent
insert_reserved-requires-clause-absent g c =
    let forward = set_of g.K.Ord.cmp c.self.inside.forward in
    let apart = contains-image g.met.K.Ord.total g.met.K.Entry.exact g.met.K.Turned.Ord.total g.met.K.Turned.Entry.exact g.K.Turn.turned g.met.K.Turn.apart forward c.args.entry in
    let absent = rw (← c.self.view_is) at c.requires.absent in
    ap (λ s. contains s c.turn-turned.result) c.self.invariant
    ∙ ap (contains (image {Q = g.K.Turned.Ord.cmp} g.K.Turn.turned forward)) c.turn-turned.ensures.turned ∙ apart ∙ absent

pub invariant_of-self : goal.invariant_of-self
invariant_of-self g c =
    let forward = set_of g.K.Ord.cmp c.self.inside.forward in
    let more = image-insert g.met.K.Ord.total g.met.K.Entry.exact g.met.K.Turned.Ord.total g.met.K.Turned.Entry.exact g.K.Turn.turned forward c.args.entry in
    c.insert_reserved.ensures.inserted ∙ ap (λ s. insert s c.turn-turned.result) c.self.invariant
    ∙ ap (insert (image {Q = g.K.Turned.Ord.cmp} g.K.Turn.turned forward)) c.turn-turned.ensures.turned ∙ more
    ∙ sym (ap (image {Q = g.K.Turned.Ord.cmp} g.K.Turn.turned) c.insert_reserved-2.ensures.inserted)
