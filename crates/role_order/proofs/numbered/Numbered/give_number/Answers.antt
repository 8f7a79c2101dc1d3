use Rattle.std.proofs.Common.{◌≡◌, ◌↔◌, ℕ, ◌+◌, ◌-◌, ◌<◌, ◌≤◌, min, length, sym, subst, arith}
use Rattle.std.proofs.lemmas.Bool.{false_from_ne_true}
use Rattle.rbac_sets.specs.Sets.{Bytes, Cardinalities, cardinality_cmp, contains, len}
use Rattle.rbac_sets.specs.SortedSet.{set_of}
use Rattle.role_order.specs.NumberedEdges.{NumberedEdges}
use Rattle.role_order.specs.private.Numbered.{HasNumber, HasNamedEdge}
use Rattle.role_order.proofs.Numbering.{NamedEdge, number_stays, number_given, len_more, numbering_more, numbered_more, same_named}
use Rattle.role_order.proofs.numbered.Numbered.give_number.Goals as goal

room_left : (room count most : ℕ) → 1 ≤ min room (most - count) → count < most
room_left room count most some = omega (arith, some)

left_over : (room room' most count count' : ℕ) → room ≤ room' + 1 → count' ≡ count + 1 → min room (most - count) ≤ min room' (most - count') + 1
left_over room room' most count count' less more = omega (arith, less, more)

pub insert_reserved-requires-clause-absent : goal.insert_reserved-requires-clause-absent
insert_reserved-requires-clause-absent c =
    false_from_ne_true (contains (set_of cardinality_cmp c.self.inside.numbers) (c.args.name, c.len-number.result)) (λ h. c.in_default.ensures.none c.len-number.result h)

pub invariant_of-self : goal.invariant_of-self
invariant_of-self c =
    let old : Cardinalities = set_of cardinality_cmp c.self.inside.numbers in
    let room : 1 ≤ c.args.self.now.room = c.requires in
    let free : len old < length c.self.inside.reach = room_left c.self.inside.numbers.room (len old) (length c.self.inside.reach) (subst (λ (e : NumberedEdges). 1 ≤ e.room) (sym c.self.view_is) room) in
    numbered_more old (set_of cardinality_cmp c.insert_reserved.new.self) c.args.name c.len-number.result c.self.invariant.0 c.in_default.ensures.none c.len-number.ensures c.insert_reserved.ensures.inserted
    c.self.inside.reach c.self.invariant free

pub returns-clause-number : goal.returns-clause-number
returns-clause-number c =
    number_given (set_of cardinality_cmp c.self.inside.numbers) (set_of cardinality_cmp c.insert_reserved.new.self) c.args.name c.len-number.result c.self.invariant.0 c.in_default.ensures.none
    c.len-number.ensures c.insert_reserved.ensures.inserted

pub returns-clause-same : goal.returns-clause-same
returns-clause-same c =
    let old : Cardinalities = set_of cardinality_cmp c.self.inside.numbers in
    let new : Cardinalities = set_of cardinality_cmp c.insert_reserved.new.self in
    let good = numbering_more old new c.args.name c.len-number.result c.self.invariant.0 c.in_default.ensures.none c.len-number.ensures c.insert_reserved.ensures.inserted in
    let stays = number_stays old new c.args.name c.len-number.result c.self.invariant.0 c.in_default.ensures.none c.len-number.ensures c.insert_reserved.ensures.inserted in
    subst (λ (e : NumberedEdges). (a b : Bytes) → NamedEdge new c.self.inside.reach a b ↔ HasNamedEdge e a b) c.self.view_is
    (same_named old new c.self.inside.reach good stays c.self.invariant.1)

pub returns-clause-others : goal.returns-clause-others
returns-clause-others c =
    let old : Cardinalities = set_of cardinality_cmp c.self.inside.numbers in
    let new : Cardinalities = set_of cardinality_cmp c.insert_reserved.new.self in
    subst (λ (e : NumberedEdges). (a : Bytes) (n : ℕ) → HasNumber e.numbers a n → HasNumber new a n) c.self.view_is
    (number_stays old new c.args.name c.len-number.result c.self.invariant.0 c.in_default.ensures.none c.len-number.ensures c.insert_reserved.ensures.inserted)

pub returns-clause-room : goal.returns-clause-room
returns-clause-room c =
    let old : Cardinalities = set_of cardinality_cmp c.self.inside.numbers in
    let new : Cardinalities = set_of cardinality_cmp c.insert_reserved.new.self in
    let more : len new ≡ len old + 1 = len_more old new c.args.name c.len-number.result c.self.invariant.0 c.in_default.ensures.none c.len-number.ensures c.insert_reserved.ensures.inserted in
    subst (λ (e : NumberedEdges). e.room ≤ min c.insert_reserved.new.self.room (length c.self.inside.reach - len new) + 1) c.self.view_is
    (left_over c.self.inside.numbers.room c.insert_reserved.new.self.room (length c.self.inside.reach) (len old) (len new) c.insert_reserved.ensures.room more)
