use Rattle.std.proofs.Common.{◌≡◌, ◌-◌, ℕ, length, take, drop, arith, rules, length-drop}
use Rattle.std.specs.Ordering.{is_lt, is_eq}
use Rattle.std.proofs.lemmas.List.Sorted.{IsPartitionPoint-from_clause}
use Rattle.rbac_sets.proofs.Runs.{lows_first, equals_first_after, span-filter, rise-sorted, take_whole}
use Rattle.chunked_sets.proofs.run.run_in.Goals as goal

pub returns : goal.returns
returns g c =
    let f = g.P.Prefix.place c.args.prefix in
    let xs = c.args.entries.now in
    let i : ℕ = c.partition_point-start.result in
    let rest = take (length xs - i) (drop i xs) in
    let rest_is : take (length xs - i) (drop i xs) ≡ drop i xs = take_whole (length xs - i) (drop i xs) (omega (arith, length-drop i xs)) in
    let rise = rise-sorted f g.K.Ord.cmp (g.met.P.Prefix.rises c.args.prefix) xs c.requires in
    let low = IsPartitionPoint-from_clause (λ y. is_lt (f y)) xs i c.partition_point-start.ensures.partitioned (lows_first f xs rise) (λ a r h called. (search rules, search rules)) in
    let equal = IsPartitionPoint-from_clause (λ y. is_eq (f y)) rest c.partition_point-count.result c.partition_point-count.ensures.partitioned
    (equals_first_after f xs rest i rest_is rise low.1) (λ a r h called. (search rules, search rules)) in
    rw rest_is (span-filter f xs rest i c.partition_point-count.result rest_is c.partition_point-start.ensures.bound low c.partition_point-count.ensures.bound equal).1
