use Rattle.std.proofs.Common.{sym, ◌∙◌, ap, [], ◌∷◌, ◌++◌}
use Rattle.std.proofs.lemmas.List.{append_assoc, append-nil, map-append}
use Rattle.rbac_sets.specs.Sets.{from_list}
use Rattle.chunked_sets.specs.Entries.{entries_left}
use Rattle.chunked_sets.proofs.Turning.{image-of_members}
use Rattle.chunked_sets.proofs.two_way.turned_entries.Goals as goal

pub loop-entry-init : goal.loop-entry-init
loop-entry-init g c = (
  [],
  sym (ap entries_left c.into_iter-entry-iterator.ensures.into_iter_gives ∙ c.iter-entry-items.ensures),
  c.in_ok-reserve.ensures.items ∙ c.new-turned.ensures.items,
)

pub loop-entry-preserved : goal.loop-entry-preserved
loop-entry-preserved g c =
    let done = c.loop-entry.invariant.0 in
    let entry = c.in-Some.entry.now in (
      done ++ entry ∷ [],
      c.loop-entry.invariant.1 ∙ ap (λ ys. done ++ ys) c.in-Some.ensures.steps ∙ sym (append_assoc done (entry ∷ []) _),
      c.in_ok-push.ensures.items ∙ (λ i. c.loop-entry.invariant.2 i ++ c.turn.ensures.turned i ∷ []) ∙ sym (map-append g.K.Turn.turned done (entry ∷ [])),
    )

pub returns-clause-image : goal.returns-clause-image
returns-clause-image g c =
    let done = c.loop-entry.invariant.0 in
    let all = c.loop-entry.invariant.1 ∙ ap (λ ys. done ++ ys) c.in-None.ensures.steps.0 ∙ append-nil done in
    let turned = ap (from_list {R = g.K.Turned.Ord.cmp}) c.loop-entry.invariant.2 ∙ image-of_members g.met.K.Ord.total g.met.K.Entry.exact g.met.K.Turned.Ord.total g.met.K.Turned.Entry.exact g.K.Turn.turned _ done all in
    rw (← turned) c.sorted_once.ensures.same
