use Rattle.std.proofs.Common.{◌≡◌, ◌∷◌, length, rules, sym, ap, subst, ◌∙◌, refl}
use Rattle.admin_mgr.specs.RowUpdates.{HasRoom}
use Rattle.admin_mgr.specs.private.OneRow.{after_changes, AreFree}
use Rattle.std.proofs.lemmas.List.{nil_from_length}
use Rattle.admin_mgr.proofs.PlanRows.RoomLaws.{room_first, room_left}
use Rattle.admin_mgr.proofs.relations.Relations.change.Goals as goal

pub loop-change-init : goal.loop-change-init
loop-change-init c =
    let all : c.into_iter-change-iterator.result.rest.items ≡ c.args.changes.items = search rules in
    record {
      facts = ap (after_changes c.args.self.now.facts) all;
      free = subst (AreFree c.args.self.now.facts) (sym all) c.requires.free;
      room = subst (HasRoom c.args.self.now.room) (sym all) c.requires.room;
      order = refl;
    }

pub apply-requires-clause-free : goal.apply-requires-clause-free
apply-requires-clause-free c =
    let next : c.loop-change.change-iterator.rest.items ≡ c.in-Some.change ∷ c.next.new.self.rest.items = c.in-Some.ensures.steps.0 in
    (subst (AreFree c.loop-change.self.facts) next c.loop-change.invariant.free).0

pub apply-requires-clause-room : goal.apply-requires-clause-room
apply-requires-clause-room c =
    let next : c.loop-change.change-iterator.rest.items ≡ c.in-Some.change ∷ c.next.new.self.rest.items = c.in-Some.ensures.steps.0 in
    room_first c.in-Some.change c.next.new.self.rest.items c.loop-change.self.room (subst (HasRoom c.loop-change.self.room) next c.loop-change.invariant.room)

pub loop-change-preserved : goal.loop-change-preserved
unfolding after_changes
loop-change-preserved c =
    let rest = c.next.new.self.rest.items in
    let next : c.loop-change.change-iterator.rest.items ≡ c.in-Some.change ∷ rest = c.in-Some.ensures.steps.0 in
    let before = c.loop-change.self in
    record {
      facts = ap (λ S. after_changes S rest) c.apply.ensures.facts ∙ sym (ap (after_changes before.facts) next) ∙ c.loop-change.invariant.facts;
      free = subst (λ S. AreFree S rest) (sym c.apply.ensures.facts) (subst (AreFree before.facts) next c.loop-change.invariant.free).1;
      room = room_left c.in-Some.change rest _ _ (subst (HasRoom before.room) next c.loop-change.invariant.room) c.apply.ensures.room;
      order = c.apply.ensures.order ∙ c.loop-change.invariant.order;
    }

pub returns-clause-facts : goal.returns-clause-facts
unfolding after_changes
returns-clause-facts c =
    let counted : c.loop-change.change-iterator.rest.len ≡ length c.loop-change.change-iterator.rest.items = search rules in
    let none = nil_from_length c.loop-change.change-iterator.rest.items (sym counted ∙ c.in-None.ensures.steps.0) in
    c.release.ensures.facts ∙ sym (ap (after_changes c.loop-change.self.facts) none) ∙ c.loop-change.invariant.facts

pub returns-clause-order : goal.returns-clause-order
returns-clause-order c = c.release.ensures.order ∙ c.loop-change.invariant.order
