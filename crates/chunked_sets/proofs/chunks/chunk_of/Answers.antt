use Rattle.std.proofs.Common.{◌-◌, rules, subst}
use Rattle.std.specs.Ordering.{is_le}
use Rattle.std.proofs.lemmas.List.Sorted.{IsPartitionPoint-from_clause}
use Rattle.chunked_sets.specs.private.Places.{first_passes, IsHome}
use Rattle.chunked_sets.proofs.ChunkLists.{filled_of}
use Rattle.chunked_sets.proofs.Homes.{begins_first, le_falls, home}
use Rattle.chunked_sets.proofs.chunks.chunk_of.Goals as goal

pub returns-then-after-eq0 : goal.returns-then-after-eq0
returns-then-after-eq0 g c =
    let R = g.K.Ord.cmp in
    let x = g.P.Probe.entry c.args.probe in
    let chunks = c.args.chunks.now in
    let filled = filled_of chunks c.requires.chunks in
    let parts = IsPartitionPoint-from_clause (λ chunk. first_passes (λ y. is_le (R y x)) chunk.items) chunks c.partition_point-after.result c.partition_point-after.ensures.partitioned
    (begins_first R (λ y. is_le (R y x)) (le_falls g.met.K.Ord.total g.met.K.Entry.exact x) chunks filled c.requires.sorted) (λ a r h called. (search rules, search rules)) in
    subst (λ n. IsHome R x chunks (n - 1)) c.if-after-eq0.true
    (home g.met.K.Ord.total g.met.K.Entry.exact x chunks c.partition_point-after.result filled c.requires.sorted c.requires.some c.partition_point-after.ensures.bound parts)

pub returns-else-after-eq0 : goal.returns-else-after-eq0
returns-else-after-eq0 g c =
    let R = g.K.Ord.cmp in
    let x = g.P.Probe.entry c.args.probe in
    let chunks = c.args.chunks.now in
    let filled = filled_of chunks c.requires.chunks in
    let parts = IsPartitionPoint-from_clause (λ chunk. first_passes (λ y. is_le (R y x)) chunk.items) chunks c.partition_point-after.result c.partition_point-after.ensures.partitioned
    (begins_first R (λ y. is_le (R y x)) (le_falls g.met.K.Ord.total g.met.K.Entry.exact x) chunks filled c.requires.sorted) (λ a r h called. (search rules, search rules)) in
    home g.met.K.Ord.total g.met.K.Entry.exact x chunks c.partition_point-after.result filled c.requires.sorted c.requires.some c.partition_point-after.ensures.bound parts
