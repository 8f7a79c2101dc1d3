use Rattle.std.proofs.Common.{◌∙◌, ℕ, ap, rules, subst, sym}
use Rattle.std.specs.List.Sorted.{IsStrictlySortedBy}
use Rattle.std.specs.Ordering.{is_le, is_lt}
use Rattle.std.specs.Prelude.{count_by}
use Rattle.std.proofs.lemmas.List.Sorted.{IsPartitionPoint-from_clause}
use Rattle.rbac_sets.specs.SortedSet.{set_of}
use Rattle.rbac_sets.proofs.Members.{members-rise}
use Rattle.rbac_sets.proofs.Runs.{lows_first, rise-sorted}
use Rattle.chunked_sets.proofs.Parts.{count_parted, not_greater_first}
use Rattle.chunked_sets.proofs.entry_set.SortedSetEntrySet.range.Goals as goal

pub returns-clause-start : goal.returns-clause-start
returns-clause-start g c =
    let f = g.P.Prefix.place c.args.prefix in
    let xs = c.as_slice-entries.result.now in
    let i : ℕ = c.partition_point-start.result in
    let sorted = subst (IsStrictlySortedBy g.K.Ord.cmp) (sym c.as_slice-entries.ensures) (members-rise g.K.Ord.cmp (set_of g.K.Ord.cmp c.args.self.now)) in
    let rise = rise-sorted f g.K.Ord.cmp (g.met.P.Prefix.rises c.args.prefix) xs sorted in
    let low = IsPartitionPoint-from_clause (λ y. is_lt (f y)) xs i c.partition_point-start.ensures.partitioned (lows_first f xs rise) (λ a r h called. (search rules, search rules)) in
    count_parted (λ y. is_lt (f y)) xs i c.partition_point-start.ensures.bound low ∙ ap (count_by (λ y. is_lt (f y))) c.as_slice-entries.ensures

pub returns-clause-end : goal.returns-clause-end
returns-clause-end g c =
    let f = g.P.Prefix.place c.args.prefix in
    let xs = c.as_slice-entries.result.now in
    let i : ℕ = c.partition_point-end.result in
    let sorted = subst (IsStrictlySortedBy g.K.Ord.cmp) (sym c.as_slice-entries.ensures) (members-rise g.K.Ord.cmp (set_of g.K.Ord.cmp c.args.self.now)) in
    let rise = rise-sorted f g.K.Ord.cmp (g.met.P.Prefix.rises c.args.prefix) xs sorted in
    let low = IsPartitionPoint-from_clause (λ y. is_le (f y)) xs i c.partition_point-end.ensures.partitioned (not_greater_first f xs rise) (λ a r h called. (search rules, search rules)) in
    count_parted (λ y. is_le (f y)) xs i c.partition_point-end.ensures.bound low ∙ ap (count_by (λ y. is_le (f y))) c.as_slice-entries.ensures
