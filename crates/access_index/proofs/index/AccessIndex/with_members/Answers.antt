use Rattle.std.proofs.Common.{◌≡◌, ◌<◌, ◌+◌, ◌-◌, length, take, vec_len, sym, ◌∙◌, ap, subst, arith}
use Rattle.std.specs.Ordering.{nat_cmp, ord_min}
use Rattle.std.proofs.lemmas.List.{take_all}
use Rattle.access_index.specs.Index.{is_below}
use Rattle.access_index.specs.private.Barring.{has_members}
use Rattle.access_index.proofs.LevelLaws.{Count, beyond_last, count_kept, count_more, count_same, last_level, within_min}
use Rattle.access_index.proofs.index.AccessIndex.with_members.Goals as goal
use Rattle.access_index.proofs.index.AccessIndex.with_members.Goals.{in-Some+in_ok-row+in_ok-raise, in_default}

pub loop-member-preserved : goal.loop-member-preserved
loop-member-preserved c =
    let index = c.args.self.now in
    let levels = c.loop-member.levels in
    let reached = c.reach.new.rows in
    let members = c.args.members.now in
    let size = c.args.count in
    let at = c.loop-member.member-index in
    let left = length members - (at + 1) in
    let counted = c.loop-member.invariant.0 in
    let more : length members - at ≡ left + 1 = omega (arith, c.loop-member-test.true) in
    let before : Count index reached.items size (left + 1) (take at members) =
    count_kept index levels.items reached.items size (left + 1) (take at members) c.in_ok-reach.ensures.same (subst (λ rest. Count index levels.items size rest (take at members)) more c.loop-member.invariant.1) in (
      ap (λ k. k + 1) counted,
      elim c.match-number.branch [
        | in-Some+in_ok-row+in_ok-raise w ↦
            rw w.levels-is (
            count_more index reached.items size left members at c.member-item.result c.loop-member-test.true c.member-item.is before w.raise.new.levels.items w.in_ok-row.row w.in-Some.number
            (size - 1 - (length members - (c.loop-member.counted + 1))) (vec_len reached)
            (sym c.number.ensures ∙ w.in-Some.is) w.in_ok-row.ensures (λ i n late early. w.in_ok-raise.ensures.raised i n (omega (arith, late, w.saturating_sub.ensures)) early)
            (λ i n past. beyond_last w.raise.new.levels.items i n (omega (arith, past, w.raise.ensures.size)))
            (λ i near. omega (arith, near, counted))
            (λ i low early.
            let inside : ord_min nat_cmp c.loop-member.counted (size - 1) < vec_len reached = subst (λ k. k < vec_len reached) c.min.ensures c.in_ok-reach.ensures.within in
            omega (arith, within_min i c.loop-member.counted (size - 1) (omega (arith, early, counted)) (omega (arith, low)), inside))
            )
        | in_default w ↦
            rw w.levels-is (count_same index reached.items size left members at c.member-item.result c.loop-member-test.true c.member-item.is before (sym c.number.ensures ∙ w.in_default.is))
      ],
    )

pub returns-clause-ok : goal.returns-clause-ok
returns-clause-ok c n =
    let index = c.args.self.now in
    let levels = c.loop-member.levels in
    c.in_ok-row_at.ensures n
    ∙ ap (λ rows. is_below rows (c.args.count - 1) n) c.deref.ensures.value
    ∙ last_level levels.items c.args.count c.requires.some n
    ∙ c.loop-member.invariant.1 c.args.count n (omega arith) (omega arith)
    ∙ ap (λ members. has_members index n members c.args.count) (take_all c.loop-member.member-index c.args.members.now (omega (arith, c.loop-member-test.false)))
