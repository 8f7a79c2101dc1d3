use Rattle.std.proofs.Common.{◌≡◌, Bool, not, sym, ◌∙◌, ap}
use Rattle.std.specs.List.{list_all}
use Rattle.rbac_sets.specs.Sets.{contains, all}
use Rattle.rbac_sets.specs.SortedSet.{set_of}
use Rattle.rbac_sets.proofs.InOrder.{members-sorted}
use Rattle.rbac_sets.proofs.SetLaws.{disjoint-Decides}
use Rattle.rbac_sets.proofs.sorted_set.SortedSet.is_disjoint.Goals as goal

pub returns : goal.returns
unfolding all
returns g c =
    let test : (x : g.row.K.Denot) → Bool = λ x. not (contains (set_of g.K.Ord.cmp c.args.other.now) x) in
    let same : c.has_none_of.result ≡ all test (set_of g.K.Ord.cmp c.args.self.now) =
    rw (← c.self.view_is) (c.has_none_of.ensures ∙ ap (list_all test) (c.deref.ensures.value ∙ sym (members-sorted g.met.K.Ord.total _ c.self.invariant))) in
    rw same (disjoint-Decides g.met.K.Ord.total g.met.K.Entry.exact (set_of g.K.Ord.cmp c.args.self.now) (set_of g.K.Ord.cmp c.args.other.now))
