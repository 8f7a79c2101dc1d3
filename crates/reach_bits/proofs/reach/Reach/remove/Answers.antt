use Rattle.std.proofs.Common.{◌≡◌, ◌↔◌, ◌⊎◌, ◌<◌, ℕ, List, [], get_or, length, refl, sym, ◌∙◌, ap, subst, arith}
use Rattle.std.specs.Prelude.{IsTrue, slice_set}
use Rattle.std.proofs.lemmas.List.{get_or_read}
use Rattle.bit_rows.specs.Rows.{has_bit}
use Rattle.reach_bits.specs.Graph.{Graph, HasEdge}
use Rattle.reach_bits.specs.private.Closing.{IsReach, IsRight}
use Rattle.reach_bits.specs.private.Renewing.{IsPartlyRight}
use Rattle.reach_bits.proofs.RowLaws.{edges_removed, wide_at}
use Rattle.reach_bits.proofs.Parting.{settled_none}
use Rattle.reach_bits.proofs.Reaching.{lent_back, reach_less}
use Rattle.reach_bits.proofs.reach.Reach.remove.Goals as goal

pub settle-requires-clause-partly : goal.settle-requires-clause-partly
settle-requires-clause-partly c =
    let edges = c.self.inside.edges.items in
    let closure = c.self.inside.closure.items in
    let a = c.args.a in
    let row = c.take.new.self in
    let leading = c.put_leading.new.leading in
    let inside : a < length edges = omega (arith, c.requires.a, ap length c.self.view_is) in
    let edge_row : c.index_mut.result.now ≡ get_or edges a [] = get_or_read edges a c.index_mut.result.now inside c.index_mut.ensures.value [] in
    let removed = edges_removed edges a c.args.b row inside c.take.ensures.gone (λ n other. c.take.ensures.others n other ∙ ap (λ (r : List ℕ). has_bit r n) edge_row) in
    let is_leading = subst (λ (g : Graph). (x : ℕ) → IsTrue (has_bit leading x) ↔ ((x ≡ a) ⊎ HasEdge g x a)) c.deref.ensures.value c.put_leading.ensures.leading in
    subst (λ (g : Graph). IsPartlyRight g c.deref_mut.result.now leading) (sym c.deref-2.ensures.value)
    (subst (λ (g : Graph). IsPartlyRight (slice_set edges a row) g leading) (sym c.deref_mut.ensures.value)
    (settled_none edges (slice_set edges a row) closure a c.args.b c.self.invariant.closed removed leading is_leading))

pub invariant_of-self : goal.invariant_of-self
invariant_of-self c =
    let edges = c.self.inside.edges.items in
    let closure = c.self.inside.closure.items in
    let pending = c.self.inside.pending in
    let reach = c.self.invariant in
    let a = c.args.a in
    let row = c.take.new.self in
    let rows = c.settle.new.rows in
    let inside : a < length edges = omega (arith, c.requires.a, ap length c.self.view_is) in
    let edge_row : c.index_mut.result.now ≡ get_or edges a [] = get_or_read edges a c.index_mut.result.now inside c.index_mut.ensures.value [] in
    let removed = edges_removed edges a c.args.b row inside c.take.ensures.gone (λ n other. c.take.ensures.others n other ∙ ap (λ (r : List ℕ). has_bit r n) edge_row) in
    let size : length row ≡ length pending = c.take.ensures.words ∙ ap length edge_row ∙ reach.edges_wide.width a inside in
    let right = subst (λ (g : Graph). (x : ℕ) → IsRight g rows x) c.deref-2.ensures.value c.settle.ensures.right in
    let words : length c.put_leading.new.leading ≡ length pending = c.put_leading.ensures.words in
    let wide = wide_at (length c.put_leading.new.leading) (length pending) rows words c.settle.ensures.wide in
    let count : length rows ≡ length closure = omega (arith, wide.count, reach.closure_wide.count) in
    subst (λ (g : Graph). IsReach (slice_set edges a row) g c.settle.new.pending c.settle.new.made c.self.inside.back.len)
    (sym (lent_back rows closure c.self.inside.closure.len c.self.inside.closure.ok.0 count))
    (reach_less edges closure rows pending c.self.inside.made c.settle.new.pending c.settle.new.made c.self.inside.back.len c.self.inside.back.len a c.args.b row reach removed size right
    (c.settle.ensures.pending ∙ words) (c.settle.ensures.made ∙ words) wide refl)
