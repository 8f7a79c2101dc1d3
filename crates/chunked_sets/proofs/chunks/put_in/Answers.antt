use Rattle.rbac_sets.proofs.InOrder.{is_err-search}
use Rattle.chunked_sets.proofs.Inserting.{inserts_sorted, inserts_set, inserts_length, inserts_put, sorted_chunk, absent_chunk}
use Rattle.chunked_sets.proofs.chunks.put_in.Goals as goal

pub place-requires : goal.place-requires
place-requires g c = rw c.deref.ensures.value (sorted_chunk _ c.args.at c.index_mut-chunk.result.now c.requires.home.within c.index_mut-chunk.ensures.value g.K.Ord.cmp c.requires.sorted)

pub unwrap_err-gap-requires : goal.unwrap_err-gap-requires
unwrap_err-gap-requires g c =
    is_err-search g.met.K.Ord.total _ _ _
    (absent_chunk _ c.args.at c.index_mut-chunk.result.now c.requires.home.within c.index_mut-chunk.ensures.value g.met.K.Ord.total c.args.entry c.requires.absent)
    (rw c.deref.ensures.value at c.place.ensures.found)

pub returns-clause-sorted : goal.returns-clause-sorted
returns-clause-sorted g c =
    let gap = rw (c.deref.ensures.value, c.unwrap_err-gap.ensures) at c.place.ensures.gap in
    inserts_sorted g.met.K.Ord.total c.args.entry _ _
    (inserts_put _ c.args.at c.index_mut-chunk.result.now c.requires.home.within c.index_mut-chunk.ensures.value g.K.Ord.cmp c.args.entry c.insert.new.self _ c.requires.home gap.0 gap.1
    (rw c.unwrap.ensures at c.insert.ensures.items)) c.requires.sorted

pub returns-clause-inserted : goal.returns-clause-inserted
returns-clause-inserted g c =
    let gap = rw (c.deref.ensures.value, c.unwrap_err-gap.ensures) at c.place.ensures.gap in
    inserts_set g.met.K.Ord.total g.met.K.Entry.exact c.args.entry _ _
    (inserts_put _ c.args.at c.index_mut-chunk.result.now c.requires.home.within c.index_mut-chunk.ensures.value g.K.Ord.cmp c.args.entry c.insert.new.self _ c.requires.home gap.0 gap.1
    (rw c.unwrap.ensures at c.insert.ensures.items))

pub returns-clause-entry_count : goal.returns-clause-entry_count
returns-clause-entry_count g c =
    let gap = rw (c.deref.ensures.value, c.unwrap_err-gap.ensures) at c.place.ensures.gap in
    inserts_length {R = g.K.Ord.cmp} c.args.entry _ _
    (inserts_put _ c.args.at c.index_mut-chunk.result.now c.requires.home.within c.index_mut-chunk.ensures.value g.K.Ord.cmp c.args.entry c.insert.new.self _ c.requires.home gap.0 gap.1
    (rw c.unwrap.ensures at c.insert.ensures.items))
