use Rattle.std.proofs.Common.{◌≡◌, length, sym, ◌∙◌, arith}
use Rattle.std.proofs.lemmas.Bool.{eqb-true}
use Rattle.std.specs.declared.cmp.Ordering.TheVariants.{Equal}
use Rattle.rbac_sets.proofs.InOrder.{sorted-remove, contains-found, contains-nowhere, from_list-remove, remove_absent}
use Rattle.chunked_sets.specs.Chunks.{entries_of}
use Rattle.chunked_sets.proofs.Inserting.{sorted_chunk}
use Rattle.chunked_sets.proofs.Omitting.{place_within, holds_there, length_removed}
use Rattle.chunked_sets.proofs.Sets.{contains_nothing, contains_home}
use Rattle.chunked_sets.proofs.removing.remove_from.Goals as goal

pub returns-then-is_empty-clause-was_there : goal.returns-then-is_empty-clause-was_there
returns-then-is_empty-clause-was_there g c =
    let nothing = eqb-true _ 0 (sym c.is_empty.ensures ∙ c.if-is_empty.true) in
    let none : length c.args.chunks.now.items ≡ 0 = omega (arith, nothing, c.args.chunks.now.ok.0) in
    contains_nothing g.met.K.Ord.total _ c.args.chunks.now.items none

pub returns-then-is_empty-clause-removed : goal.returns-then-is_empty-clause-removed
returns-then-is_empty-clause-removed g c =
    let nothing = eqb-true _ 0 (sym c.is_empty.ensures ∙ c.if-is_empty.true) in
    let none : length c.args.chunks.now.items ≡ 0 = omega (arith, nothing, c.args.chunks.now.ok.0) in
    remove_absent g.met.K.Ord.total _ _ g.met.K.Entry.exact (sym (contains_nothing g.met.K.Ord.total _ c.args.chunks.now.items none))

pub place-requires : goal.place-requires
place-requires g c =
    let home = rw c.deref.ensures.value at c.chunk_of-at.ensures in
    rw c.deref-2.ensures.value (sorted_chunk c.args.chunks.now.items _ c.index.result.now home.within c.index.ensures g.K.Ord.cmp c.requires.sorted)

pub returns-in-Err-clause-was_there : goal.returns-in-Err-clause-was_there
returns-in-Err-clause-was_there g c =
    let home = rw c.deref.ensures.value at c.chunk_of-at.ensures in
    let gap = rw c.deref-2.ensures.value at c.in-Err.ensures.gap in
    sym (contains-nowhere g.met.K.Ord.total _ _ _ gap.0 gap.1.0 gap.1.1) ∙ contains_home g.met.K.Ord.total _ c.args.chunks.now.items _ c.index.result.now c.index.ensures home

pub returns-in-Err-clause-removed : goal.returns-in-Err-clause-removed
returns-in-Err-clause-removed g c =
    let home = rw c.deref.ensures.value at c.chunk_of-at.ensures in
    let gap = rw c.deref-2.ensures.value at c.in-Err.ensures.gap in
    let absent = sym (contains_home g.met.K.Ord.total (g.P.Probe.entry c.args.probe) c.args.chunks.now.items _ c.index.result.now c.index.ensures home)
    ∙ contains-nowhere g.met.K.Ord.total _ _ _ gap.0 gap.1.0 gap.1.1 in
    remove_absent g.met.K.Ord.total _ _ g.met.K.Entry.exact absent

pub returns-in-Ok-clause-was_there : goal.returns-in-Ok-clause-was_there
returns-in-Ok-clause-was_there g c =
    let home = rw c.deref.ensures.value at c.chunk_of-at.ensures in
    let found = rw c.deref-2.ensures.value at c.in-Ok.ensures.found in
    let x = g.P.Probe.entry c.args.probe in
    let chunks = c.args.chunks.now.items in
    let v = c.index.result.now in
    sym (contains-found g.met.K.Ord.total _ x _ (place_within chunks _ v c.in-Ok.found home.within c.index.ensures found.0)
    (holds_there chunks _ v c.in-Ok.found home.within c.index.ensures found.0 (λ y. g.K.Ord.cmp y x ≡ Equal) found.1))

pub returns-in-Ok-clause-removed : goal.returns-in-Ok-clause-removed
returns-in-Ok-clause-removed g c =
    let home = rw c.deref.ensures.value at c.chunk_of-at.ensures in
    let found = rw c.deref-2.ensures.value at c.in-Ok.ensures.found in
    let x = g.P.Probe.entry c.args.probe in
    let chunks = c.args.chunks.now.items in
    let v = c.index.result.now in
    rw c.take_out.ensures.out (from_list-remove g.met.K.Ord.total g.met.K.Entry.exact _ x _ (place_within chunks _ v c.in-Ok.found home.within c.index.ensures found.0)
    (holds_there chunks _ v c.in-Ok.found home.within c.index.ensures found.0 (λ y. g.K.Ord.cmp y x ≡ Equal) found.1) c.requires.sorted)

pub returns-in-Ok-clause-sorted : goal.returns-in-Ok-clause-sorted
returns-in-Ok-clause-sorted g c =
    let home = rw c.deref.ensures.value at c.chunk_of-at.ensures in
    let found = rw c.deref-2.ensures.value at c.in-Ok.ensures.found in
    let chunks = c.args.chunks.now.items in
    rw c.take_out.ensures.out (sorted-remove g.met.K.Ord.total _ _ (place_within chunks _ c.index.result.now c.in-Ok.found home.within c.index.ensures found.0) c.requires.sorted)

pub returns-in-Ok-clause-entry_count : goal.returns-in-Ok-clause-entry_count
returns-in-Ok-clause-entry_count g c =
    let home = rw c.deref.ensures.value at c.chunk_of-at.ensures in
    let found = rw c.deref-2.ensures.value at c.in-Ok.ensures.found in
    let chunks = c.args.chunks.now.items in
    rw c.take_out.ensures.out (length_removed (entries_of chunks) _ (place_within chunks _ c.index.result.now c.in-Ok.found home.within c.index.ensures found.0))
