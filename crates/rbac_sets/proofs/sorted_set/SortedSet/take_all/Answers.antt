use Rattle.std.proofs.Common.{List, [], ◌∷◌, ◌++◌, take, sym, ap, ◌∙◌, arith}
use Rattle.std.proofs.lemmas.List.{take_more}
use Rattle.rbac_sets.specs.Sets.{difference, remove, from_list}
use Rattle.rbac_sets.specs.SortedSet.{set_of}
use Rattle.rbac_sets.proofs.SetLaws.{difference-none, difference-more}
use Rattle.rbac_sets.proofs.sorted_set.SortedSet.take_all.Goals as goal

pub loop-entry-init : goal.loop-entry-init
loop-entry-init g c = record { taken = sym (difference-none g.met.K.Ord.total g.met.K.Entry.exact (set_of g.K.Ord.cmp c.start_removal-removal.result)); room = omega arith }

pub loop-entry-preserved : goal.loop-entry-preserved
loop-entry-preserved g c =
    let x = c.entry-item.result in
    let start = set_of g.K.Ord.cmp c.start_removal-removal.result in
    let xs = c.deref-entry-items.result.now in
    let at = c.loop-entry.entry-index in
    record {
      taken = c.take.ensures.removed ∙ ap (λ s. remove s x) c.loop-entry.invariant.taken ∙ difference-more g.met.K.Ord.total g.met.K.Entry.exact start (take at xs) x
          ∙ ap (λ (l : List g.row.K.Denot). difference start (from_list l)) (sym (take_more xs at x c.loop-entry-test.true ∙ ap (λ y. take at xs ++ y ∷ []) (sym c.entry-item.is)));
      room = omega (arith, c.loop-entry.invariant.room, c.take.ensures.room);
    }
