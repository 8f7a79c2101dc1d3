use Rattle.std.proofs.Common.{◌≡◌, ◌++◌, length, ap, ◌∙◌, filter, arith, rules}
use Rattle.std.specs.Ordering.{is_lt, is_le, is_eq}
use Rattle.std.proofs.lemmas.List.Sorted.{IsPartitionPoint-from_clause}
use Rattle.chunked_sets.specs.Chunks.{entries_of}
use Rattle.chunked_sets.specs.private.Places.{first_passes}
use Rattle.chunked_sets.proofs.ChunkLists.{filled_of}
use Rattle.chunked_sets.proofs.Homes.{begins_first}
use Rattle.chunked_sets.proofs.Parts.{lt_falls, le_falls_too, rest_filled, rest_sorted, spans, length_filter}
use Rattle.chunked_sets.proofs.run.run_of.Goals as goal

pub first_part-first-requires-clause-sorted : goal.first_part-first-requires-clause-sorted
first_part-first-requires-clause-sorted g c =
    let R = g.K.Ord.cmp in
    let f = g.P.Prefix.place c.args.prefix in
    let rises = g.met.P.Prefix.rises c.args.prefix in
    let chunks = c.args.chunks.now in
    let after = c.partition_point-after.result in
    let rest = c.split_at.result.1.now in
    let rest_is = c.split_at.ensures.back in
    let lows = IsPartitionPoint-from_clause (λ chunk. first_passes (λ y. is_lt (f y)) chunk.items) chunks after c.partition_point-after.ensures.partitioned
    (begins_first R (λ y. is_lt (f y)) (lt_falls R f rises) chunks (filled_of chunks c.requires.chunks) c.requires.sorted) (λ a r h called. (search rules, search rules)) in
    let rest_are_filled = rest_filled R f rises chunks c.requires.chunks c.requires.sorted after rest rest_is in
    let rest_are_sorted = rest_sorted R f rises chunks c.requires.chunks c.requires.sorted after rest rest_is in
    let highs = IsPartitionPoint-from_clause (λ chunk. first_passes (λ y. is_le (f y)) chunk.items) rest c.partition_point-count.result c.partition_point-count.ensures.partitioned
    (begins_first R (λ y. is_le (f y)) (le_falls_too R f rises) rest rest_are_filled
    rest_are_sorted) (λ a r h called. (search rules, search rules)) in
    let s = spans R f rises chunks c.requires.chunks c.requires.sorted after rest rest_is c.split_at.result.0.now c.split_at-2.result.0.now
    c.partition_point-count.result c.split_at.ensures.front c.split_at-2.ensures.front
    c.partition_point-after.ensures.bound c.partition_point-count.ensures.bound lows highs in
    s.low_sorted

pub first_part-first-requires-clause-below : goal.first_part-first-requires-clause-below
first_part-first-requires-clause-below g c =
    let R = g.K.Ord.cmp in
    let f = g.P.Prefix.place c.args.prefix in
    let rises = g.met.P.Prefix.rises c.args.prefix in
    let chunks = c.args.chunks.now in
    let after = c.partition_point-after.result in
    let rest = c.split_at.result.1.now in
    let rest_is = c.split_at.ensures.back in
    let lows = IsPartitionPoint-from_clause (λ chunk. first_passes (λ y. is_lt (f y)) chunk.items) chunks after c.partition_point-after.ensures.partitioned
    (begins_first R (λ y. is_lt (f y)) (lt_falls R f rises) chunks (filled_of chunks c.requires.chunks) c.requires.sorted) (λ a r h called. (search rules, search rules)) in
    let rest_are_filled = rest_filled R f rises chunks c.requires.chunks c.requires.sorted after rest rest_is in
    let rest_are_sorted = rest_sorted R f rises chunks c.requires.chunks c.requires.sorted after rest rest_is in
    let highs = IsPartitionPoint-from_clause (λ chunk. first_passes (λ y. is_le (f y)) chunk.items) rest c.partition_point-count.result c.partition_point-count.ensures.partitioned
    (begins_first R (λ y. is_le (f y)) (le_falls_too R f rises) rest rest_are_filled
    rest_are_sorted) (λ a r h called. (search rules, search rules)) in
    let s = spans R f rises chunks c.requires.chunks c.requires.sorted after rest rest_is c.split_at.result.0.now c.split_at-2.result.0.now
    c.partition_point-count.result c.split_at.ensures.front c.split_at-2.ensures.front
    c.partition_point-after.ensures.bound c.partition_point-count.ensures.bound lows highs in
    s.low_below

pub last_part-requires-clause-sorted : goal.last_part-requires-clause-sorted
last_part-requires-clause-sorted g c =
    let R = g.K.Ord.cmp in
    let f = g.P.Prefix.place c.args.prefix in
    let rises = g.met.P.Prefix.rises c.args.prefix in
    let chunks = c.args.chunks.now in
    let after = c.partition_point-after.result in
    let rest = c.split_at.result.1.now in
    let rest_is = c.split_at.ensures.back in
    let lows = IsPartitionPoint-from_clause (λ chunk. first_passes (λ y. is_lt (f y)) chunk.items) chunks after c.partition_point-after.ensures.partitioned
    (begins_first R (λ y. is_lt (f y)) (lt_falls R f rises) chunks (filled_of chunks c.requires.chunks) c.requires.sorted) (λ a r h called. (search rules, search rules)) in
    let rest_are_filled = rest_filled R f rises chunks c.requires.chunks c.requires.sorted after rest rest_is in
    let rest_are_sorted = rest_sorted R f rises chunks c.requires.chunks c.requires.sorted after rest rest_is in
    let highs = IsPartitionPoint-from_clause (λ chunk. first_passes (λ y. is_le (f y)) chunk.items) rest c.partition_point-count.result c.partition_point-count.ensures.partitioned
    (begins_first R (λ y. is_le (f y)) (le_falls_too R f rises) rest rest_are_filled
    rest_are_sorted) (λ a r h called. (search rules, search rules)) in
    let s = spans R f rises chunks c.requires.chunks c.requires.sorted after rest rest_is c.split_at.result.0.now c.split_at-2.result.0.now
    c.partition_point-count.result c.split_at.ensures.front c.split_at-2.ensures.front
    c.partition_point-after.ensures.bound c.partition_point-count.ensures.bound lows highs in
    s.equal_sorted

pub last_part-requires-clause-equal : goal.last_part-requires-clause-equal
last_part-requires-clause-equal g c =
    let R = g.K.Ord.cmp in
    let f = g.P.Prefix.place c.args.prefix in
    let rises = g.met.P.Prefix.rises c.args.prefix in
    let chunks = c.args.chunks.now in
    let after = c.partition_point-after.result in
    let rest = c.split_at.result.1.now in
    let rest_is = c.split_at.ensures.back in
    let lows = IsPartitionPoint-from_clause (λ chunk. first_passes (λ y. is_lt (f y)) chunk.items) chunks after c.partition_point-after.ensures.partitioned
    (begins_first R (λ y. is_lt (f y)) (lt_falls R f rises) chunks (filled_of chunks c.requires.chunks) c.requires.sorted) (λ a r h called. (search rules, search rules)) in
    let rest_are_filled = rest_filled R f rises chunks c.requires.chunks c.requires.sorted after rest rest_is in
    let rest_are_sorted = rest_sorted R f rises chunks c.requires.chunks c.requires.sorted after rest rest_is in
    let highs = IsPartitionPoint-from_clause (λ chunk. first_passes (λ y. is_le (f y)) chunk.items) rest c.partition_point-count.result c.partition_point-count.ensures.partitioned
    (begins_first R (λ y. is_le (f y)) (le_falls_too R f rises) rest rest_are_filled
    rest_are_sorted) (λ a r h called. (search rules, search rules)) in
    let s = spans R f rises chunks c.requires.chunks c.requires.sorted after rest rest_is c.split_at.result.0.now c.split_at-2.result.0.now
    c.partition_point-count.result c.split_at.ensures.front c.split_at-2.ensures.front
    c.partition_point-after.ensures.bound c.partition_point-count.ensures.bound lows highs in
    s.equal_begins

pub new-requires : goal.new-requires
new-requires g c =
    let R = g.K.Ord.cmp in
    let f = g.P.Prefix.place c.args.prefix in
    let rises = g.met.P.Prefix.rises c.args.prefix in
    let chunks = c.args.chunks.now in
    let after = c.partition_point-after.result in
    let rest = c.split_at.result.1.now in
    let rest_is = c.split_at.ensures.back in
    let lows = IsPartitionPoint-from_clause (λ chunk. first_passes (λ y. is_lt (f y)) chunk.items) chunks after c.partition_point-after.ensures.partitioned
    (begins_first R (λ y. is_lt (f y)) (lt_falls R f rises) chunks (filled_of chunks c.requires.chunks) c.requires.sorted) (λ a r h called. (search rules, search rules)) in
    let rest_are_filled = rest_filled R f rises chunks c.requires.chunks c.requires.sorted after rest rest_is in
    let rest_are_sorted = rest_sorted R f rises chunks c.requires.chunks c.requires.sorted after rest rest_is in
    let highs = IsPartitionPoint-from_clause (λ chunk. first_passes (λ y. is_le (f y)) chunk.items) rest c.partition_point-count.result c.partition_point-count.ensures.partitioned
    (begins_first R (λ y. is_le (f y)) (le_falls_too R f rises) rest rest_are_filled
    rest_are_sorted) (λ a r h called. (search rules, search rules)) in
    let s = spans R f rises chunks c.requires.chunks c.requires.sorted after rest rest_is c.split_at.result.0.now c.split_at-2.result.0.now
    c.partition_point-count.result c.split_at.ensures.front c.split_at-2.ensures.front
    c.partition_point-after.ensures.bound c.partition_point-count.ensures.bound lows highs in
    let same : c.first_part-first.result.now ++ (entries_of c.last_part.result.0.now ++ c.last_part.result.1.now) ≡ filter (λ y. is_eq (f y)) (entries_of chunks) =
    (λ i. c.first_part-first.ensures i ++ c.last_part.ensures i) ∙ s.whole in
    omega (arith, ap length same, length_filter (λ y. is_eq (f y)) (entries_of chunks), c.requires.few)

pub returns : goal.returns
returns g c =
    let R = g.K.Ord.cmp in
    let f = g.P.Prefix.place c.args.prefix in
    let rises = g.met.P.Prefix.rises c.args.prefix in
    let chunks = c.args.chunks.now in
    let after = c.partition_point-after.result in
    let rest = c.split_at.result.1.now in
    let rest_is = c.split_at.ensures.back in
    let lows = IsPartitionPoint-from_clause (λ chunk. first_passes (λ y. is_lt (f y)) chunk.items) chunks after c.partition_point-after.ensures.partitioned
    (begins_first R (λ y. is_lt (f y)) (lt_falls R f rises) chunks (filled_of chunks c.requires.chunks) c.requires.sorted) (λ a r h called. (search rules, search rules)) in
    let rest_are_filled = rest_filled R f rises chunks c.requires.chunks c.requires.sorted after rest rest_is in
    let rest_are_sorted = rest_sorted R f rises chunks c.requires.chunks c.requires.sorted after rest rest_is in
    let highs = IsPartitionPoint-from_clause (λ chunk. first_passes (λ y. is_le (f y)) chunk.items) rest c.partition_point-count.result c.partition_point-count.ensures.partitioned
    (begins_first R (λ y. is_le (f y)) (le_falls_too R f rises) rest rest_are_filled
    rest_are_sorted) (λ a r h called. (search rules, search rules)) in
    let s = spans R f rises chunks c.requires.chunks c.requires.sorted after rest rest_is c.split_at.result.0.now c.split_at-2.result.0.now
    c.partition_point-count.result c.split_at.ensures.front c.split_at-2.ensures.front
    c.partition_point-after.ensures.bound c.partition_point-count.ensures.bound lows highs in
    c.new.ensures ∙ (λ i. c.first_part-first.ensures i ++ c.last_part.ensures i) ∙ s.whole
