use Rattle.std.proofs.Common.{◌+◌, ℕ, sym, subst, vec_len, arith}
use Rattle.reach_bits.specs.Graph.{Graph}
use Rattle.reach_bits.proofs.Joining.{AreCopied, copied_past}
use Rattle.reach_bits.proofs.rows.widened.Goals as goal

pub loop-alloc-preserved : goal.loop-alloc-preserved
loop-alloc-preserved c =
    let copy = c.loop-alloc.copy.items in
    let rows = c.args.rows.now in
    let pushed = c.push-in-loop-alloc.new.self in
    let more =
    copied_past copy rows c.args.words (vec_len c.loop-alloc.copy) c.in_ok-empty.field-0 c.in_ok-empty.ensures.words (sym c.loop-alloc.copy.ok.0) c.loop-alloc.invariant.0
    c.in_ok-empty.ensures.empty c.loop-alloc.invariant.2 in (
      omega (arith, c.in_ok-push-2.ensures.len),
      omega (arith, c.in_ok-push-2.ensures.len, c.len.ensures),
      subst (λ (n : ℕ). AreCopied pushed.items rows c.args.words n) (sym c.in_ok-push-2.ensures.len)
          (subst (λ (g : Graph). AreCopied g rows c.args.words (vec_len c.loop-alloc.copy + 1)) (sym c.in_ok-push-2.ensures.items) more),
    )
