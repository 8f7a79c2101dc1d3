use Rattle.std.proofs.Common.{◌≡◌, ◌<◌, ◌-◌, true, false, length, get_or, ap, sym, subst, ◌∙◌, arith, Global}
use Rattle.std.specs.declared.vec.Vec.{Vec}
use Rattle.std.specs.List.Sorted.{IsStrictlySortedBy}
use Rattle.std.specs.Ordering.{is_le}
use Rattle.std.proofs.lemmas.List.{get_or_default}
use Rattle.chunked_sets.specs.Chunks.{entries_of}
use Rattle.chunked_sets.specs.private.Chunks.{AreChunks}
use Rattle.chunked_sets.specs.private.Places.{first_passes}
use Rattle.chunked_sets.proofs.Passing.{passed_on, less_before, home_here}
use Rattle.chunked_sets.proofs.pass.seek.Goals as goal

pub loop-pass-preserved : goal.loop-pass-preserved
loop-pass-preserved g c =
    let R = g.K.Ord.cmp in
    let x = g.P.Probe.entry c.args.probe in
    let kept = c.loop-pass.invariant in
    let pass = c.loop-pass.pass in
    let n = c.unwrap-next.result in
    let ring_is = rw c.unwrap-next.ensures at c.pop_front.ensures.items in
    let now_is = rw (c.unwrap.ensures, c.replace-passed.ensures.value) at c.push_back.ensures.items in
    let step = passed_on pass.ring.items c.pop_front.new.self.items c.push_back.new.self.items pass.current n pass.ahead (pass.ahead - 1) (omega (arith, c.loop-pass-test.true))
    (omega (arith, kept.ahead, pass.ring.ok.0)) ring_is now_is in
    let first : c.index.result.now ≡ n = c.index.ensures ∙ ap (λ l. get_or l 0 c.index.result.now) ring_is in
    let le = subst (λ items. first_passes (λ y. is_le (R y x)) items ≡ true) (c.deref.ensures.value ∙ ap (λ (v : Vec g.row.K.Denot Global). v.items) first)
    (sym c.begins_before.ensures ∙ c.if-begins_before.true) in
    let popped = rw c.unwrap-next.ensures at c.pop_front.ensures.len in
    let pushed = rw c.unwrap.ensures at c.push_back.ensures.len in
    record {
      same = rw c.replace-passed.ensures.after (step ∙ kept.same);
      passed = less_before g.met.K.Ord.total g.met.K.Entry.exact x (pass.ahead - 1) c.push_back.new.self.items n
          (subst (λ l. IsStrictlySortedBy R (entries_of l)) (sym (step ∙ kept.same)) c.requires.sorted) le;
      ahead = omega (arith, popped, pushed, kept.ahead);
      len = omega (arith, popped, pushed, kept.len);
      capacity = c.push_back.ensures.in_place (omega (arith, popped, kept.len, kept.capacity, c.pop_front.ensures.capacity, c.requires.room)) ∙ c.pop_front.ensures.capacity ∙ kept.capacity;
    }

pub returns-else-begins_before-clause-home : goal.returns-else-begins_before-clause-home
returns-else-begins_before-clause-home g c =
    let R = g.K.Ord.cmp in
    let x = g.P.Probe.entry c.args.probe in
    let kept = c.loop-pass.invariant in
    let pass = c.loop-pass.pass in
    let some : 0 < length pass.ring.items = omega (arith, kept.ahead, pass.ring.ok.0, c.loop-pass-test.true) in
    let high = subst (λ items. first_passes (λ y. is_le (R y x)) items ≡ false) c.deref.ensures.value (sym c.begins_before.ensures ∙ c.if-begins_before.false) in
    home_here g.met.K.Ord.total g.met.K.Entry.exact x pass.ahead pass.ring.items pass.current (omega (arith, kept.ahead, pass.ring.ok.0)) (subst AreChunks (sym kept.same) c.requires.chunks)
    (subst (λ l. IsStrictlySortedBy R (entries_of l)) (sym kept.same) c.requires.sorted) kept.passed
    (λ _ d. subst (λ (v : Vec g.row.K.Denot Global). first_passes (λ y. is_le (R y x)) v.items ≡ false) (c.index.ensures ∙ get_or_default pass.ring.items 0 c.index.result.now d some) high)
