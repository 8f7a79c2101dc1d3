use Rattle.std.proofs.Common.{ℕ, rules}
use Rattle.std.specs.Ordering.{is_lt}
use Rattle.std.proofs.lemmas.List.Sorted.{IsPartitionPoint-from_clause}
use Rattle.rbac_sets.proofs.Runs.{lows_first, rise-sorted}
use Rattle.chunked_sets.proofs.Parts.{count_parted}
use Rattle.chunked_sets.proofs.run.count_in.Goals as goal

pub returns : goal.returns
returns g c =
    let f = g.P.Prefix.place c.args.prefix in
    let xs = c.args.entries.now in
    let i : ℕ = c.partition_point.result in
    let rise = rise-sorted f g.K.Ord.cmp (g.met.P.Prefix.rises c.args.prefix) xs c.requires in
    let low = IsPartitionPoint-from_clause (λ y. is_lt (f y)) xs i c.partition_point.ensures.partitioned (lows_first f xs rise) (λ a r h called. (search rules, search rules)) in
    count_parted (λ y. is_lt (f y)) xs i c.partition_point.ensures.bound low
