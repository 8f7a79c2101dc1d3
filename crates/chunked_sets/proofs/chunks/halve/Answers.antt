use Rattle.std.proofs.Common.{◌≡◌, List, [], ◌∷◌, ◌++◌, reverse, ap, sym, ◌∙◌, append_assoc, arith}
use Rattle.std.proofs.lemmas.List.{reverse-append}
use Rattle.chunked_sets.proofs.chunks.halve.Goals as goal

moved : {X : Type 0} (l m u v w : List X) (x : X) → l ≡ m ++ x ∷ [] → v ≡ u ++ x ∷ [] → l ++ reverse u ≡ w → m ++ reverse v ≡ w
moved l m u v w x l_is v_is was =
    ap (λ t. m ++ t) (ap reverse v_is ∙ reverse-append u (x ∷ [])) ∙ sym (append_assoc m (x ∷ []) (reverse u)) ∙ ap (λ t. t ++ reverse u) (sym l_is) ∙ was

pub loop-lower-preserved : goal.loop-lower-preserved
loop-lower-preserved g c =
    let kept = c.loop-lower.invariant in
    let popped = rw c.unwrap-last.ensures at c.pop.ensures.items in
    let pushed = rw c.unwrap.ensures at c.push.ensures.items in
    let shorter = rw c.unwrap-last.ensures at c.pop.ensures.len in
    let longer = rw c.unwrap.ensures at c.push.ensures.len in
    record {
      same = moved _ _ _ _ _ _ popped pushed kept.same;
      total = omega (arith, shorter, longer, kept.total);
      half = omega (arith, shorter);
      memory = omega arith;
      capacity = omega arith;
    }
