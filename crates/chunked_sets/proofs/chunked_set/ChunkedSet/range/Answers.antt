use Rattle.std.proofs.Common.{◌≡◌, length, filter, ap, ◌∙◌, arith}
use Rattle.std.specs.Ordering.{is_eq, is_le}
use Rattle.std.proofs.lemmas.List.Sums.{length-filter}
use Rattle.rbac_sets.specs.Sets.{members}
use Rattle.rbac_sets.specs.SortedSet.{set_of}
use Rattle.chunked_sets.proofs.Parts.{count_not_greater, length_filter}
use Rattle.chunked_sets.proofs.chunked_set.ChunkedSet.range.Goals as goal

pub overflow_add-result : goal.overflow_add-result
overflow_add-result g c =
    let f = g.P.Prefix.place c.args.prefix in
    let xs = members (set_of g.K.Ord.cmp c.args.self.now) in
    let run : c.len.result ≡ length (filter (λ y. is_eq (f y)) xs) = c.len.ensures ∙ ap length c.with_first.ensures in
    let all = length-filter (λ y. is_le (f y)) xs in
    omega (arith, run, all, c.count_below-start.ensures.count, c.count_below-start.ensures.few, count_not_greater f xs, length_filter (λ y. is_le (f y)) xs)

pub returns-clause-end : goal.returns-clause-end
returns-clause-end g c =
    let f = g.P.Prefix.place c.args.prefix in
    let xs = members (set_of g.K.Ord.cmp c.args.self.now) in
    let run : c.len.result ≡ length (filter (λ y. is_eq (f y)) xs) = c.len.ensures ∙ ap length c.with_first.ensures in
    omega (arith, run, c.count_below-start.ensures.count, count_not_greater f xs)
