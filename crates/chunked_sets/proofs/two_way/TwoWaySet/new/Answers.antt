use Rattle.std.proofs.Common.{ap, sym, ◌∙◌}
use Rattle.rbac_sets.specs.Sets.{image}
use Rattle.chunked_sets.proofs.Turning.{image-empty}
use Rattle.chunked_sets.proofs.two_way.TwoWaySet.new.Goals as goal

pub invariant_of-result : goal.invariant_of-result
invariant_of-result g c =
    let none = image-empty g.met.K.Ord.total g.met.K.Entry.exact g.met.K.Turned.Ord.total g.met.K.Turned.Entry.exact g.K.Turn.turned in
    c.new-2.ensures ∙ none ∙ sym (ap (image {Q = g.K.Turned.Ord.cmp} g.K.Turn.turned) c.new.ensures)
