use Rattle.std.proofs.Common.{refl, sym, below_more, arith}
use Rattle.std.proofs.lemmas.Bool.{true≢false}
use Rattle.bit_rows.proofs.RowLaws.{common_number, none_common}
use Rattle.bit_rows.proofs.words.meets.Goals as goal

pub returns-then-meets : goal.returns-then-meets
returns-then-meets c = (λ _. common_number c.args.a.now c.args.b.now c.loop-i.i (c.if-meets.ensures.0 refl), λ _. refl)

pub loop-i-preserved : goal.loop-i-preserved
loop-i-preserved c = below_more _ _ c.loop-i.invariant (λ common. true≢false (sym (c.if-meets.ensures.1 common)))

pub returns : goal.returns
returns c = (
  λ no. absurd (true≢false (sym no)),
  λ (n, in_a, in_b). absurd (none_common c.args.a.now c.args.b.now c.loop-i.i c.loop-i.invariant (omega arith) n in_a in_b),
)
