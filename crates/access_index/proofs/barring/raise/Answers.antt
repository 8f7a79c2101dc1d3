use Rattle.std.proofs.Common.{◌≡◌, ◌+◌, ◌-◌, ◌&&◌, ◌||◌, ◌∙◌, ap, subst, arith, vec_len}
use Rattle.bit_rows.specs.Rows.{has}
use Rattle.access_index.specs.private.Barring.{at_least}
use Rattle.access_index.proofs.LevelLaws.{AreRaised, level_kept, raised_more}
use Rattle.access_index.proofs.barring.raise.Goals as goal

pub loop-level-preserved : goal.loop-level-preserved
loop-level-preserved c =
    let level = c.loop-level.level in
    let size = vec_len c.args.levels.now in
    let before = c.loop-level.invariant in
    let next : level ≡ level - 1 + 1 = omega (arith, c.loop-level-test.true) in (
      c.replace_row.ensures.size ∙ c.take_row-raised.ensures.size ∙ before.0,
      raised_more c.loop-level.levels.items c.args.levels.now.items c.replace_row.new.rows.items c.args.row.now c.put_common.new.self (level - 1) size
          (omega (arith, c.loop-level-test.true, before.1.low))
          (subst (λ from. AreRaised c.loop-level.levels.items c.args.levels.now.items c.args.row.now from size) next before.1)
          (λ n. c.in_ok-put_common.ensures.common n ∙ (λ t. c.take_row-raised.ensures.taken n t || (c.level_before.ensures n ∙ ap (λ rows. at_least rows (level - 1) n && has c.args.row.now n) c.deref.ensures.value
          ∙ ap (λ x. x && has c.args.row.now n) (level_kept c.loop-level.levels.items c.take_row-raised.new.rows.items (level - 1) c.take_row-raised.ensures.others n)) t))
          c.replace_row.ensures.here (λ i n differ. c.replace_row.ensures.others i n differ ∙ c.take_row-raised.ensures.others i n differ),
    )

pub returns-clause-raised : goal.returns-clause-raised
returns-clause-raised c i n late early = c.loop-level.invariant.1.done i n (omega (arith, c.loop-level-test.false, late)) early
