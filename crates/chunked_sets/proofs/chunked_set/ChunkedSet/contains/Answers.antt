use Rattle.std.proofs.Common.{◌≡◌, length, sym, ◌∙◌, arith}
use Rattle.std.proofs.lemmas.Bool.{eqb-true}
use Rattle.rbac_sets.proofs.InOrder.{contains-search}
use Rattle.chunked_sets.proofs.Inserting.{sorted_chunk}
use Rattle.chunked_sets.proofs.Sets.{contains_nothing, contains_home}
use Rattle.chunked_sets.proofs.chunked_set.ChunkedSet.contains.Goals as goal

pub returns-then-is_empty : goal.returns-then-is_empty
returns-then-is_empty g c =
    let nothing = eqb-true _ 0 (sym c.is_empty.ensures ∙ c.if-is_empty.true) in
    let none : length c.self.inside.chunks.items ≡ 0 = omega (arith, nothing, c.self.inside.chunks.ok.0) in
    rw (← c.self.view_is) (contains_nothing g.met.K.Ord.total _ _ none)

pub place-requires : goal.place-requires
place-requires g c =
    let home = rw c.deref.ensures.value at c.chunk_of-at.ensures in
    rw c.deref-2.ensures.value (sorted_chunk c.self.inside.chunks.items _ c.index.result.now home.within c.index.ensures g.K.Ord.cmp c.self.invariant.2)

pub returns : goal.returns
returns g c =
    let home = rw c.deref.ensures.value at c.chunk_of-at.ensures in
    rw (← c.self.view_is) (c.is_ok.ensures.value ∙ rw c.deref-2.ensures.value at (contains-search g.met.K.Ord.total _ _ _ c.place.ensures.found c.place.ensures.gap)
    ∙ contains_home g.met.K.Ord.total _ c.self.inside.chunks.items _ c.index.result.now c.index.ensures home)
