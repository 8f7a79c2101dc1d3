use Rattle.std.proofs.Common.{◌≡◌, ◌<◌, ◌≤◌, ◌-◌, ◌+◌, suc, length, [], ◌∷◌, ap, sym, subst, ◌∙◌, arith, add-one, length-append, Global}
use Rattle.std.specs.Vec.{vec_capacity}
use Rattle.std.specs.declared.vec.Vec.{Vec}
use Rattle.chunked_sets.specs.private.Chunks.{AreChunks}
use Rattle.chunked_sets.specs.private.Places.{IsHome}
use Rattle.chunked_sets.specs.private.Passes.{in_order}
use Rattle.chunked_sets.proofs.Splitting.{halved, halved_chunks, home_above, home_below}
use Rattle.chunked_sets.proofs.Passing.{order_get, order_above, order_halved}
use Rattle.chunked_sets.proofs.pass.split.Goals as goal

pub returns-then-begins_before-clause-chunks : goal.returns-then-begins_before-clause-chunks
returns-then-begins_before-clause-chunks g c =
    let pass = c.args.pass.now in
    let ring = pass.ring.items in
    let order = in_order pass.ahead ring pass.current in
    let at = length ring - pass.ahead in
    let lower = c.halve.new.lower in
    let upper = c.halve.new.upper in
    let le : pass.ahead ≤ length ring = omega (arith, c.requires.ahead, pass.ring.ok.0) in
    let there = sym (order_get ring pass.ahead pass.current le pass.current) in
    let now_is = rw (c.unwrap.ensures, c.replace-lower.ensures.value) at c.push_back.ensures.items in
    let is : in_order pass.ahead c.push_back.new.self.items upper ≡ halved order at lower upper = order_above ring c.push_back.new.self.items pass.ahead lower upper le now_is ∙ sym
    (order_halved ring pass.ahead pass.current lower upper le) in
    let memory : 128 ≤ vec_capacity pass.current = subst (λ (chunk : Vec g.row.K.Denot Global). 128 ≤ vec_capacity chunk) (sym there) (c.requires.chunks at pass.current c.requires.home.within).2 in
    let are = halved_chunks order at lower upper c.requires.home.within c.requires.chunks (
      omega (arith, c.halve.ensures.half),
      omega (arith, c.halve.ensures.half),
      omega
          (arith, memory, c.halve.ensures.capacity),
    ) (omega (arith, c.halve.ensures.rest), omega (arith, c.halve.ensures.rest), c.halve.ensures.upper_capacity) in
    rw c.replace-lower.ensures.after (subst AreChunks (sym is) are)

pub returns-then-begins_before-clause-home : goal.returns-then-begins_before-clause-home
returns-then-begins_before-clause-home g c =
    let pass = c.args.pass.now in
    let ring = pass.ring.items in
    let order = in_order pass.ahead ring pass.current in
    let at = length ring - pass.ahead in
    let lower = c.halve.new.lower in
    let upper = c.halve.new.upper in
    let le : pass.ahead ≤ length ring = omega (arith, c.requires.ahead, pass.ring.ok.0) in
    let there = sym (order_get ring pass.ahead pass.current le pass.current) in
    let now_is = rw (c.unwrap.ensures, c.replace-lower.ensures.value) at c.push_back.ensures.items in
    let is : in_order pass.ahead c.push_back.new.self.items upper ≡ halved order at lower upper = order_above ring c.push_back.new.self.items pass.ahead lower upper le now_is ∙ sym
    (order_halved ring pass.ahead pass.current lower upper le) in
    let first = rw c.deref.ensures.value at (sym c.begins_before.ensures ∙ c.if-begins_before.true) in
    let next : suc at ≡ length c.push_back.new.self.items - pass.ahead = omega (arith, le, ap length now_is, length-append ring (lower ∷ [])) in
    rw c.replace-lower.ensures.after (subst (IsHome g.K.Ord.cmp c.args.entry.now (in_order pass.ahead c.push_back.new.self.items upper)) next
    (subst (λ l. IsHome g.K.Ord.cmp c.args.entry.now l (suc at)) (sym is)
    (home_above g.met.K.Ord.total g.met.K.Entry.exact c.args.entry.now order at pass.current lower upper there c.halve.ensures.same c.requires.chunks c.requires.sorted c.requires.home first)))

pub returns-else-begins_before-clause-chunks : goal.returns-else-begins_before-clause-chunks
returns-else-begins_before-clause-chunks g c =
    let pass = c.args.pass.now in
    let ring = pass.ring.items in
    let order = in_order pass.ahead ring pass.current in
    let at = length ring - pass.ahead in
    let lower = c.halve.new.lower in
    let upper = c.halve.new.upper in
    let le : pass.ahead ≤ length ring = omega (arith, c.requires.ahead, pass.ring.ok.0) in
    let there = sym (order_get ring pass.ahead pass.current le pass.current) in
    let now_is = rw c.unwrap-else-begins_before.ensures at c.push_front.ensures.items in
    let is : in_order (pass.ahead + 1) c.push_front.new.self.items lower ≡ halved order at lower upper = (λ i. in_order (add-one pass.ahead i) (now_is i) lower) ∙ sym
    (order_halved ring pass.ahead pass.current lower upper le) in
    let memory : 128 ≤ vec_capacity pass.current = subst (λ (chunk : Vec g.row.K.Denot Global). 128 ≤ vec_capacity chunk) (sym there) (c.requires.chunks at pass.current c.requires.home.within).2 in
    let are = halved_chunks order at lower upper c.requires.home.within c.requires.chunks (
      omega (arith, c.halve.ensures.half),
      omega (arith, c.halve.ensures.half),
      omega
          (arith, memory, c.halve.ensures.capacity),
    ) (omega (arith, c.halve.ensures.rest), omega (arith, c.halve.ensures.rest), c.halve.ensures.upper_capacity) in
    subst AreChunks (sym is) are

pub returns-else-begins_before-clause-home : goal.returns-else-begins_before-clause-home
returns-else-begins_before-clause-home g c =
    let pass = c.args.pass.now in
    let ring = pass.ring.items in
    let order = in_order pass.ahead ring pass.current in
    let at = length ring - pass.ahead in
    let lower = c.halve.new.lower in
    let upper = c.halve.new.upper in
    let le : pass.ahead ≤ length ring = omega (arith, c.requires.ahead, pass.ring.ok.0) in
    let there = sym (order_get ring pass.ahead pass.current le pass.current) in
    let now_is = rw c.unwrap-else-begins_before.ensures at c.push_front.ensures.items in
    let is : in_order (pass.ahead + 1) c.push_front.new.self.items lower ≡ halved order at lower upper = (λ i. in_order (add-one pass.ahead i) (now_is i) lower) ∙ sym
    (order_halved ring pass.ahead pass.current lower upper le) in
    let high = rw c.deref.ensures.value at (sym c.begins_before.ensures ∙ c.if-begins_before.false) in
    let some : 0 < length upper.items = omega (arith, upper.ok.0, c.halve.ensures.rest) in
    let same : at ≡ length c.push_front.new.self.items - (pass.ahead + 1) = omega (arith, le, ap length now_is) in
    subst (IsHome g.K.Ord.cmp c.args.entry.now (in_order (pass.ahead + 1) c.push_front.new.self.items lower)) same
    (subst (λ l. IsHome g.K.Ord.cmp c.args.entry.now l at) (sym is)
    (home_below g.met.K.Ord.total g.met.K.Entry.exact c.args.entry.now order at pass.current lower upper there c.halve.ensures.same c.requires.chunks c.requires.sorted c.requires.home some high))
