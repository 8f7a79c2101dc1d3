use Rattle.std.proofs.Common.{◌≡◌, ◌<◌, ℕ, List, [], get_or, length, sym, ◌∙◌, ap, subst, arith}
use Rattle.std.specs.Prelude.{IsTrue, slice_set}
use Rattle.std.proofs.lemmas.List.{get_or_default, get_or_read}
use Rattle.bit_rows.specs.Rows.{has_bit}
use Rattle.reach_bits.specs.private.Renewing.{IsOver, IsPartlyRight}
use Rattle.reach_bits.proofs.RowLaws.{wide_written}
use Rattle.reach_bits.proofs.Parting.{pending_less, settled_more}
use Rattle.reach_bits.proofs.settling.settle.Goals as goal

pub bounds-edges-at : goal.bounds-edges-at
bounds-edges-at c = omega (arith, c.descend-at.ensures.within, c.requires.edges.count, c.loop-next.invariant.wide.count)

pub make_row-requires-clause-edges : goal.make_row-requires-clause-edges
make_row-requires-clause-edges c =
    let at = c.descend-at.result in
    let inside : at < length c.args.edges.now = omega (arith, c.descend-at.ensures.within, c.requires.edges.count, c.loop-next.invariant.wide.count) in
    ap length (get_or_read c.args.edges.now at c.index-edges-at.result inside c.index-edges-at.is []) ∙ c.requires.edges.width at inside ∙ sym c.loop-next.invariant.made_words

pub set-requires : goal.set-requires
set-requires c =
    let at = c.descend-at.result in
    ap length (get_or_default c.loop-next.rows at c.index-rows-at.result [] c.descend-at.ensures.within) ∙ c.loop-next.invariant.wide.width at c.descend-at.ensures.within
    ∙ sym c.loop-next.invariant.made_words ∙ sym c.make_row.ensures.words

pub take-requires : goal.take-requires
take-requires c = omega (arith, c.descend-at.ensures.within, c.loop-next.invariant.wide.count, c.loop-next.invariant.pending_words)

pub bounds-back-at : goal.bounds-back-at
bounds-back-at c = omega (arith, c.descend-at.ensures.within, c.loop-next.invariant.wide.count, c.requires.back, c.requires.wide.count)

pub loop-next-smaller : goal.loop-next-smaller
loop-next-smaller c = pending_less c.take.new.self c.loop-next.pending c.descend-at.result c.take.ensures.words c.descend-at.ensures.pending c.take.ensures.gone c.take.ensures.others

pub loop-next-preserved : goal.loop-next-preserved
loop-next-preserved c =
    let edges = c.args.edges.now in
    let rows = c.loop-next.rows in
    let pending = c.loop-next.pending in
    let at = c.descend-at.result in
    let made = c.make_row.new.made in
    let words = length c.args.pending.now in
    let inside : at < length edges = omega (arith, c.descend-at.ensures.within, c.requires.edges.count, c.loop-next.invariant.wide.count) in
    let read : c.index-edges-at.result ≡ get_or edges at [] = get_or_read edges at c.index-edges-at.result inside c.index-edges-at.is [] in
    let is_made = λ (b : ℕ). subst (λ (row : List ℕ). (IsTrue (has_bit made b) → IsOver row rows b) × (IsOver row rows b → IsTrue (has_bit made b))) read (c.make_row.ensures.made b) in
    let made_words : length made ≡ words = c.make_row.ensures.words ∙ c.loop-next.invariant.made_words in
    let right = settled_more edges rows pending c.loop-next.invariant.partly at c.descend-at.ensures.within c.descend-at.ensures.pending c.descend-at.ensures.last made is_made c.take.new.self c.take.ensures.gone c.take.ensures.others in
    record {
      wide = wide_written words rows at c.set.new.self (ap length c.set.ensures ∙ made_words) c.loop-next.invariant.wide;
      pending_words = c.take.ensures.words ∙ c.loop-next.invariant.pending_words;
      made_words = made_words;
      partly = subst (λ (row : List ℕ). IsPartlyRight edges (slice_set rows at row) c.take.new.self) (sym c.set.ensures) right;
      some = c.resume-next.ensures.some;
      none = c.resume-next.ensures.none;
    }
