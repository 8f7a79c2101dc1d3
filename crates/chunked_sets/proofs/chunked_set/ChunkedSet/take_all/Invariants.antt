use Rattle.std.proofs.Common.{◌≡◌, ◌≤◌, take}
use Rattle.rbac_sets.specs.Sets.{difference, from_list}
use Rattle.rbac_sets.specs.SortedSet.{set_of}
use Rattle.chunked_sets.proofs.chunked_set.ChunkedSet.take_all.Given as goal

abbrev pub invariant-loop-other : goal.invariant-loop-other
invariant-loop-other g l = record {
  taken : set_of g.K.Ord.cmp l.self ≡ difference (set_of g.K.Ord.cmp l.initial.self) (from_list {R = g.K.Ord.cmp} (take l.other-index l.others));
  room : l.initial.self.room ≤ l.self.room;
}
