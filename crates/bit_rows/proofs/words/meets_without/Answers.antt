use Rattle.std.proofs.Common.{refl, sym, arith, subst}
use Rattle.std.specs.Prelude.{slice_index}
use Rattle.std.proofs.lemmas.Bool.{true≢false}
use Rattle.bit_rows.proofs.RowLaws.{AreRest, number_without, without_all, without_more}
use Rattle.bit_rows.proofs.words.meets_without.Goals as goal

pub returns-then-meets : goal.returns-then-meets
returns-then-meets c =
    let made = subst (λ w. AreRest (slice_index c.args.b.now c.loop-i.i) w c.difference.result) c.word_at.ensures c.difference.ensures in
    (λ _. number_without c.args.a.now c.args.b.now c.args.without.now c.loop-i.i c.difference.result made (c.if-meets.ensures.0 refl), λ _. refl)

pub loop-i-preserved : goal.loop-i-preserved
loop-i-preserved c =
    let made = subst (λ w. AreRest (slice_index c.args.b.now c.loop-i.i) w c.difference.result) c.word_at.ensures c.difference.ensures in
    without_more c.args.a.now c.args.b.now c.args.without.now c.loop-i.i c.difference.result made (λ common. true≢false (sym (c.if-meets.ensures.1 common))) c.loop-i.invariant

pub returns : goal.returns
returns c = (
  λ no. absurd (true≢false (sym no)),
  λ (n, in_a, in_b, out). absurd (without_all c.args.a.now c.args.b.now c.args.without.now c.loop-i.i c.loop-i.invariant (omega arith) n in_a in_b out),
)
