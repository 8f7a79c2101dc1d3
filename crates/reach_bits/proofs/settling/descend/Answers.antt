use Rattle.std.proofs.Common.{◌≡◌, ◌*◌, [], get_or, length, sym, ◌∙◌, ap, arith}
use Rattle.std.specs.Prelude.{IsTrue}
use Rattle.std.proofs.lemmas.Bool.{false_from_ne_true}
use Rattle.std.proofs.lemmas.List.{get_or_read}
use Rattle.bit_rows.specs.Rows.{has_bit}
use Rattle.reach_bits.specs.Graph.{HasEdge, has_edge}
use Rattle.reach_bits.proofs.Counting.{count_less}
use Rattle.reach_bits.proofs.WordLaws.{within}
use Rattle.reach_bits.proofs.settling.descend.Goals as goal

pub loop-k-init : goal.loop-k-init
loop-k-init c =
    let low = within c.args.pending.now c.args.start c.requires.start in
    (omega (arith, low, c.requires.wide.count), c.requires.start)

pub common-requires : goal.common-requires
common-requires c =
    ap length (get_or_read c.args.rows.now c.loop-k.at c.index-rows-at.result c.loop-k.invariant.0 c.index-rows-at.is []) ∙ c.requires.wide.width c.loop-k.at c.loop-k.invariant.0

pub bounds-back-k : goal.bounds-back-k
bounds-back-k c =
    let low = within c.args.pending.now c.in-Some.k c.in-Some.ensures.some.2 in
    omega (arith, low, c.requires.wide.count, c.requires.back)

pub offset_bounds-back-k : goal.offset_bounds-back-k
offset_bounds-back-k c =
    let low = within c.args.pending.now c.in-Some.k c.in-Some.ensures.some.2 in
    omega (arith, low, c.requires.most)

pub loop-k-preserved : goal.loop-k-preserved
loop-k-preserved c =
    let low = within c.args.pending.now c.in-Some.k c.in-Some.ensures.some.2 in
    (omega (arith, low, c.requires.wide.count), c.in-Some.ensures.some.2)

-- the row of a number has it
pub loop-k-smaller : goal.loop-k-smaller
loop-k-smaller c =
    let rows = c.args.rows.now in
    let pending = c.args.pending.now in
    let at = c.loop-k.at in
    let k = c.in-Some.k in
    let read : c.index-rows-at.result ≡ get_or rows at [] = get_or_read rows at c.index-rows-at.result c.loop-k.invariant.0 c.index-rows-at.is [] in
    let at_k : HasEdge rows at k = ap (λ r. has_bit r k) (sym read) ∙ c.in-Some.ensures.some.1 in
    let k_pending : IsTrue (has_bit pending k) = c.in-Some.ensures.some.2 in
    count_less (has_edge rows k) (has_edge rows at) (64 * length pending) k
    (λ n kn. c.requires.falls at k n c.loop-k.invariant.1 k_pending at_k kn)
    (within pending k k_pending)
    (false_from_ne_true (has_edge rows k k) (c.requires.acyclic k k_pending)) at_k

pub returns-clause-last : goal.returns-clause-last
returns-clause-last c k edge =
    let read : c.index-rows-at.result ≡ get_or c.args.rows.now c.loop-k.at [] = get_or_read c.args.rows.now c.loop-k.at c.index-rows-at.result c.loop-k.invariant.0 c.index-rows-at.is [] in
    c.in_default.ensures.none k (ap (λ r. has_bit r k) read ∙ edge)
