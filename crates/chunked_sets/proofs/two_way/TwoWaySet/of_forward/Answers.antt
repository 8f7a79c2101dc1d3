use Rattle.std.proofs.Common.{sym, ◌∙◌, ap}
use Rattle.rbac_sets.specs.Sets.{from_list}
use Rattle.rbac_sets.proofs.SetLaws.{from_members}
use Rattle.chunked_sets.proofs.two_way.TwoWaySet.of_forward.Goals as goal

pub invariant_of-result : goal.invariant_of-result
invariant_of-result g c =
    sym (from_members g.met.K.Turned.Ord.total g.met.K.Turned.Entry.exact _)
    ∙ ap (from_list {R = g.K.Turned.Ord.cmp}) c.in_ok-backward.ensures.ok ∙ c.in_ok-turned.ensures.image
