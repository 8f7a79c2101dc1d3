use Rattle.std.proofs.Common.{subst, sym}
use Rattle.std.specs.List.Sorted.{IsStrictlySortedBy}
use Rattle.std.proofs.lemmas.List.Filters.{dedup_is}
use Rattle.std.proofs.lemmas.List.Kept.{IsStrictlySortedBy-dedup}
use Rattle.chunked_sets.proofs.SortedLists.{same_entries}
use Rattle.chunked_sets.proofs.sorting.sorted_once.Goals as goal

pub returns-clause-sorted : goal.returns-clause-sorted
returns-clause-sorted g c =
    subst (IsStrictlySortedBy g.K.Ord.cmp) (sym (dedup_is g.K.PartialEq.eq _ _ c.dedup.ensures.filtered))
    (IsStrictlySortedBy-dedup g.met.K.Ord.total g.met.K.Ord.matches_eq _ c.in_ok-sort.ensures.sorted)

pub returns-clause-same : goal.returns-clause-same
returns-clause-same g c =
    same_entries g.met.K.Ord.total g.met.K.Entry.exact g.met.K.Eq.laws g.met.K.Ord.matches_eq _ _ _
    c.in_ok-sort.ensures.permutation (dedup_is g.K.PartialEq.eq _ _ c.dedup.ensures.filtered)
