use Rattle.std.proofs.Common.{◌≡◌, ◌-◌, ℕ, length, take, drop, arith, rules, length-drop}
use Rattle.std.specs.Ordering.{is_lt}
use Rattle.std.proofs.lemmas.List.Sorted.{IsPartitionPoint-from_clause}
use Rattle.rbac_sets.proofs.Runs.{lows_first, equals_first_after, span-filter, rise-sorted, take_whole}
use Rattle.rbac_sets.proofs.sorted_set.span.Goals as goal

pub count_first-count-requires : goal.count_first-count-requires
count_first-count-requires g c =
    let f = g.P.Prefix.place c.args.prefix in
    let xs = c.args.entries.now in
    let i : ℕ = c.partition_point-start.result in
    let rest_is : take (length xs - i) (drop i xs) ≡ drop i xs = take_whole (length xs - i) (drop i xs) (omega (arith, length-drop i xs)) in
    let rise = rise-sorted f g.K.Ord.cmp (g.met.P.Prefix.rises c.args.prefix) xs c.requires in
    let low = IsPartitionPoint-from_clause (λ y. is_lt (f y)) xs i c.partition_point-start.ensures.partitioned (lows_first f xs rise) (λ a r h called. (search rules, search rules)) in
    equals_first_after f xs (take (length xs - i) (drop i xs)) i rest_is rise low.1

pub returns : goal.returns
returns g c =
    let f = g.P.Prefix.place c.args.prefix in
    let xs = c.args.entries.now in
    let i : ℕ = c.partition_point-start.result in
    let rest_is : take (length xs - i) (drop i xs) ≡ drop i xs = take_whole (length xs - i) (drop i xs) (omega (arith, length-drop i xs)) in
    let rise = rise-sorted f g.K.Ord.cmp (g.met.P.Prefix.rises c.args.prefix) xs c.requires in
    let low = IsPartitionPoint-from_clause (λ y. is_lt (f y)) xs i c.partition_point-start.ensures.partitioned (lows_first f xs rise) (λ a r h called. (search rules, search rules)) in
    let found = span-filter f xs (take (length xs - i) (drop i xs)) i c.count_first-count.result rest_is c.partition_point-start.ensures.bound low c.count_first-count.ensures.bound c.count_first-count.ensures.ends in
    record { within = found.0; those = found.1 }
