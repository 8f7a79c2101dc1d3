use Rattle.std.proofs.Common.{◌≤◌, ◌<◌, length, arith, sym, ◌∙◌, subst, add-one, Global}
use Rattle.std.specs.Vec.{vec_capacity}
use Rattle.std.specs.declared.vec.Vec.{Vec}
use Rattle.chunked_sets.specs.private.Chunks.{AreChunks}
use Rattle.chunked_sets.proofs.Splitting.{halved_entries, halved_chunks, home_above, home_below}
use Rattle.chunked_sets.proofs.chunks.split_for.Goals as goal

pub returns-then-is_above-clause-home : goal.returns-then-is_above-clause-home
returns-then-is_above-clause-home g c =
    let items = rw (c.unwrap.ensures, add-one) at c.insert.ensures.items in
    let chunks = c.args.chunks.now.items in
    let at = c.args.at in
    let v = c.index_mut.result.now in
    let lower = c.halve.new.lower in
    let upper = c.halve.new.upper in
    let there = c.index_mut.ensures.value in
    let le = rw c.deref.ensures.value at (sym c.begins_before-is_above.ensures ∙ c.if-is_above.true) in
    rw (items, add-one) (home_above g.met.K.Ord.total g.met.K.Entry.exact c.args.entry.now chunks at v lower upper there c.halve.ensures.same c.requires.chunks c.requires.sorted c.requires.home le)

pub returns-then-is_above-clause-same : goal.returns-then-is_above-clause-same
returns-then-is_above-clause-same g c =
    let items = rw (c.unwrap.ensures, add-one) at c.insert.ensures.items in
    let chunks = c.args.chunks.now.items in
    let at = c.args.at in
    let v = c.index_mut.result.now in
    let lower = c.halve.new.lower in
    let upper = c.halve.new.upper in
    let there = c.index_mut.ensures.value in
    rw items (halved_entries chunks at v lower upper c.requires.home.within there c.halve.ensures.same)

pub returns-then-is_above-clause-chunks : goal.returns-then-is_above-clause-chunks
returns-then-is_above-clause-chunks g c =
    let items = rw (c.unwrap.ensures, add-one) at c.insert.ensures.items in
    let chunks = c.args.chunks.now.items in
    let at = c.args.at in
    let v = c.index_mut.result.now in
    let lower = c.halve.new.lower in
    let upper = c.halve.new.upper in
    let there = c.index_mut.ensures.value in
    let memory : 128 ≤ vec_capacity v = subst (λ (chunk : Vec g.row.K.Denot Global). 128 ≤ vec_capacity chunk) (sym there) (c.requires.chunks at v c.requires.home.within).2 in
    subst AreChunks (sym items) (halved_chunks chunks at lower upper c.requires.home.within c.requires.chunks
    (omega (arith, c.halve.ensures.half), omega (arith, c.halve.ensures.half), omega (arith, memory, c.halve.ensures.capacity))
    (omega (arith, c.halve.ensures.rest), omega (arith, c.halve.ensures.rest), c.halve.ensures.upper_capacity))

pub returns-else-is_above-clause-home : goal.returns-else-is_above-clause-home
returns-else-is_above-clause-home g c =
    let items = rw (c.unwrap.ensures, add-one) at c.insert.ensures.items in
    let chunks = c.args.chunks.now.items in
    let at = c.args.at in
    let v = c.index_mut.result.now in
    let lower = c.halve.new.lower in
    let upper = c.halve.new.upper in
    let there = c.index_mut.ensures.value in
    let high = rw c.deref.ensures.value at (sym c.begins_before-is_above.ensures ∙ c.if-is_above.false) in
    let some : 0 < length upper.items = omega (arith, upper.ok.0, c.halve.ensures.rest) in
    rw items (home_below g.met.K.Ord.total g.met.K.Entry.exact c.args.entry.now chunks at v lower upper there c.halve.ensures.same c.requires.chunks c.requires.sorted c.requires.home some high)

pub returns-else-is_above-clause-same : goal.returns-else-is_above-clause-same
returns-else-is_above-clause-same g c =
    let items = rw (c.unwrap.ensures, add-one) at c.insert.ensures.items in
    let chunks = c.args.chunks.now.items in
    let at = c.args.at in
    let v = c.index_mut.result.now in
    let lower = c.halve.new.lower in
    let upper = c.halve.new.upper in
    let there = c.index_mut.ensures.value in
    rw items (halved_entries chunks at v lower upper c.requires.home.within there c.halve.ensures.same)

pub returns-else-is_above-clause-chunks : goal.returns-else-is_above-clause-chunks
returns-else-is_above-clause-chunks g c =
    let items = rw (c.unwrap.ensures, add-one) at c.insert.ensures.items in
    let chunks = c.args.chunks.now.items in
    let at = c.args.at in
    let v = c.index_mut.result.now in
    let lower = c.halve.new.lower in
    let upper = c.halve.new.upper in
    let there = c.index_mut.ensures.value in
    let memory : 128 ≤ vec_capacity v = subst (λ (chunk : Vec g.row.K.Denot Global). 128 ≤ vec_capacity chunk) (sym there) (c.requires.chunks at v c.requires.home.within).2 in
    subst AreChunks (sym items) (halved_chunks chunks at lower upper c.requires.home.within c.requires.chunks
    (omega (arith, c.halve.ensures.half), omega (arith, c.halve.ensures.half), omega (arith, memory, c.halve.ensures.capacity))
    (omega (arith, c.halve.ensures.rest), omega (arith, c.halve.ensures.rest), c.halve.ensures.upper_capacity))
