use Rattle.std.proofs.Common.{◌∷◌, [], ◌++◌, take, ap, sym, ◌∙◌, arith}
use Rattle.std.proofs.lemmas.List.{take_more}
use Rattle.rbac_sets.specs.Sets.{remove, difference, from_list}
use Rattle.rbac_sets.specs.SortedSet.{set_of}
use Rattle.chunked_sets.proofs.Taking.{difference_none, difference_more}
use Rattle.chunked_sets.proofs.chunked_set.ChunkedSet.take_all.Goals as goal

pub loop-other-init : goal.loop-other-init
loop-other-init g c = record {
  taken = difference_none g.met.K.Ord.total g.met.K.Entry.exact (set_of g.K.Ord.cmp c.args.self.now);
  room = omega arith;
}

pub loop-other-preserved : goal.loop-other-preserved
loop-other-preserved g c =
    let kept = c.loop-other.invariant in
    let R = g.K.Ord.cmp in
    let x = c.other-item.result in
    let i = c.loop-other.other-index in
    let others = c.args.others.now in
    let more = take_more others i x c.loop-other-test.true ∙ ap (λ y. take i others ++ y ∷ []) (sym c.other-item.is) in
    record {
      taken = c.remove.ensures.removed ∙ ap (λ s. remove s x) kept.taken ∙ difference_more g.met.K.Ord.total g.met.K.Entry.exact (set_of R c.args.self.now) (take i others) x
          ∙ ap (λ l. difference (set_of R c.args.self.now) (from_list l)) (sym more);
      room = omega (arith, kept.room, c.remove.ensures.room);
    }
