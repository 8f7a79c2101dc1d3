use Rattle.std.proofs.Common.{length, ap, sym, ◌∙◌, rules}
use Rattle.std.specs.Ordering.{is_lt}
use Rattle.std.proofs.lemmas.List.Sorted.{IsPartitionPoint-from_clause}
use Rattle.std.proofs.lemmas.List.Sums.{length-filter}
use Rattle.chunked_sets.specs.Chunks.{entries_of}
use Rattle.chunked_sets.specs.private.Places.{first_passes}
use Rattle.chunked_sets.proofs.ChunkLists.{filled_of}
use Rattle.chunked_sets.proofs.Homes.{begins_first}
use Rattle.chunked_sets.proofs.Parts.{begin_below, lt_falls}
use Rattle.chunked_sets.proofs.run.count_below.Goals as goal

pub count_low-requires-clause-sorted : goal.count_low-requires-clause-sorted
count_low-requires-clause-sorted g c =
    let R = g.K.Ord.cmp in
    let f = g.P.Prefix.place c.args.prefix in
    let rises = g.met.P.Prefix.rises c.args.prefix in
    let chunks = c.args.chunks.now in
    let after = c.partition_point-after.result in
    let parted = IsPartitionPoint-from_clause (λ chunk. first_passes (λ y. is_lt (f y)) chunk.items) chunks after c.partition_point-after.ensures.partitioned
    (begins_first R (λ y. is_lt (f y)) (lt_falls R f rises) chunks (filled_of chunks c.requires.chunks) c.requires.sorted) (λ a r h called. (search rules, search rules)) in
    let low = begin_below R f rises chunks c.requires.chunks c.requires.sorted after c.split_at.result.0.now c.split_at.ensures.front c.partition_point-after.ensures.bound parted in
    low.sorted

pub count_low-requires-clause-below : goal.count_low-requires-clause-below
count_low-requires-clause-below g c =
    let R = g.K.Ord.cmp in
    let f = g.P.Prefix.place c.args.prefix in
    let rises = g.met.P.Prefix.rises c.args.prefix in
    let chunks = c.args.chunks.now in
    let after = c.partition_point-after.result in
    let parted = IsPartitionPoint-from_clause (λ chunk. first_passes (λ y. is_lt (f y)) chunk.items) chunks after c.partition_point-after.ensures.partitioned
    (begins_first R (λ y. is_lt (f y)) (lt_falls R f rises) chunks (filled_of chunks c.requires.chunks) c.requires.sorted) (λ a r h called. (search rules, search rules)) in
    let low = begin_below R f rises chunks c.requires.chunks c.requires.sorted after c.split_at.result.0.now c.split_at.ensures.front c.partition_point-after.ensures.bound parted in
    low.below

pub returns : goal.returns
returns g c =
    let R = g.K.Ord.cmp in
    let f = g.P.Prefix.place c.args.prefix in
    let rises = g.met.P.Prefix.rises c.args.prefix in
    let chunks = c.args.chunks.now in
    let after = c.partition_point-after.result in
    let parted = IsPartitionPoint-from_clause (λ chunk. first_passes (λ y. is_lt (f y)) chunk.items) chunks after c.partition_point-after.ensures.partitioned
    (begins_first R (λ y. is_lt (f y)) (lt_falls R f rises) chunks (filled_of chunks c.requires.chunks) c.requires.sorted) (λ a r h called. (search rules, search rules)) in
    let low = begin_below R f rises chunks c.requires.chunks c.requires.sorted after c.split_at.result.0.now c.split_at.ensures.front c.partition_point-after.ensures.bound parted in
    c.count_low.ensures ∙ sym (length-filter (λ y. is_lt (f y)) (entries_of c.split_at.result.0.now)) ∙ ap length low.whole ∙ length-filter (λ y. is_lt (f y)) (entries_of chunks)
