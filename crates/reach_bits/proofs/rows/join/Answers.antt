use Rattle.std.proofs.Common.{◌≡◌, ◌+◌, ◌<◌, ◌||◌, [], get_or, length, sym, ◌∙◌, ap, subst, arith}
use Rattle.std.proofs.lemmas.Bool.{true≢false}
use Rattle.std.proofs.lemmas.List.{get_or_default}
use Rattle.bit_rows.specs.Rows.{has_bit}
use Rattle.reach_bits.specs.Graph.{Graph}
use Rattle.reach_bits.proofs.Joining.{AreJoined, joined_all, joined_kept, joined_more}
use Rattle.reach_bits.proofs.rows.join.Goals.{then-is_above, else-is_above}
use Rattle.reach_bits.proofs.rows.join.Goals as goal

pub loop-x-preserved : goal.loop-x-preserved
loop-x-preserved c =
    let rows = c.loop-x.rows in
    let x = c.loop-x.x in
    let inside : x < length rows = omega arith in
    elim c.if-is_above.branch [
      | then-is_above w ↦
          let read : get_or rows x w.index-rows-x.result ≡ get_or rows x [] = get_or_default rows x w.index-rows-x.result [] inside in
          let size = w.put_all.ensures.words ∙ ap length read ∙ c.loop-x.invariant.wide.width x inside in
          subst (λ (r : Graph). AreJoined r c.args.rows.now c.args.a c.args.added.now (x + 1)) (sym w.rows-is)
          (joined_more rows c.args.rows.now c.args.a c.args.added.now x inside c.loop-x.invariant w.put_all.new.self (c.is_above.ensures.0 w.if-is_above.true) size
          (λ y. w.put_all.ensures.both y ∙ ap (λ r. has_bit r y || has_bit c.args.added.now y) read))
      | else-is_above w ↦
          subst (λ (r : Graph). AreJoined r c.args.rows.now c.args.a c.args.added.now (x + 1)) (sym w.rows-is)
          (joined_kept rows c.args.rows.now c.args.a c.args.added.now x inside c.loop-x.invariant (λ above. true≢false (sym (c.is_above.ensures.1 above) ∙ w.if-is_above.false)))
    ]

pub returns-clause-joined : goal.returns-clause-joined
returns-clause-joined c = joined_all c.loop-x.rows c.args.rows.now c.args.a c.args.added.now c.loop-x.x c.requires.within (omega (arith, c.loop-x.invariant.count)) c.loop-x.invariant
