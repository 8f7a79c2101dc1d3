use Rattle.std.proofs.Common.{◌≡◌, ◌≤◌, take}
use Rattle.rbac_sets.specs.Sets.{difference, from_list}
use Rattle.rbac_sets.specs.SortedSet.{set_of}
use Rattle.rbac_sets.proofs.sorted_set.SortedSet.take_all.Given as goal

abbrev pub invariant-loop-entry : goal.invariant-loop-entry
invariant-loop-entry g l = record {
  taken : set_of g.K.Ord.cmp l.removal ≡ difference (set_of g.K.Ord.cmp l.initial.removal) (from_list (take l.entry-index l.entry-items));
  room : l.initial.removal.room ≤ l.removal.room;
}
