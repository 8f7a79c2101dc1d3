use Rattle.std.proofs.Common.{◌≡◌, ◌↔◌, ◌⊎◌, ◌<◌, ℕ, List, [], get_or, length, sym, ◌∙◌, ap, subst, arith}
use Rattle.std.specs.Prelude.{IsTrue, slice_set}
use Rattle.std.proofs.lemmas.List.{get_or_read}
use Rattle.bit_rows.specs.Rows.{has_bit}
use Rattle.reach_bits.specs.Graph.{Graph, HasEdge, Leads}
use Rattle.reach_bits.specs.private.Closing.{IsReach}
use Rattle.reach_bits.proofs.RowLaws.{edges_added, put_is}
use Rattle.reach_bits.proofs.Reaching.{lent_back, reach_more}
use Rattle.reach_bits.proofs.reach.Reach.add.Goals as goal

pub invariant_of-self : goal.invariant_of-self
invariant_of-self c =
    let edges = c.self.inside.edges.items in
    let closure = c.self.inside.closure.items in
    let pending = c.self.inside.pending in
    let reach = c.self.invariant in
    let a = c.args.a in
    let b = c.args.b in
    let row = c.put-2.new.self in
    let made = c.put.new.self in
    let rows = c.join.new.rows in
    let inside : a < length edges = omega (arith, c.requires.a, ap length c.self.view_is) in
    let inside_b : b < length closure = omega (arith, c.requires.b, ap length c.self.view_is, reach.edges_wide.count, reach.closure_wide.count) in
    let edge_row : c.index_mut.result.now ≡ get_or edges a [] = get_or_read edges a c.index_mut.result.now inside c.index_mut.ensures.value [] in
    let old_row : c.set.new.self ≡ get_or closure b [] = c.set.ensures ∙ get_or_read closure b c.index.result.now inside_b c.index.ensures [] in
    let added = edges_added edges a b row inside c.put-2.ensures.there (λ n other. c.put-2.ensures.others n other ∙ ap (λ (r : List ℕ). has_bit r n) edge_row) in
    let size : length row ≡ length pending = c.put-2.ensures.words ∙ ap length edge_row ∙ reach.edges_wide.width a inside in
    let joined =
    subst (λ (g : Graph). (x y : ℕ) → HasEdge rows x y ↔ (HasEdge g x y ⊎ (((x ≡ a) ⊎ HasEdge g x a) × IsTrue (has_bit made y)))) c.deref_mut.ensures.value c.join.ensures.joined in
    let made_is =
    λ (y : ℕ). subst (λ (r : List ℕ). IsTrue (has_bit made y) ↔ (IsTrue (has_bit r y) ⊎ (y ≡ b))) old_row
    (put_is (has_bit made) (has_bit c.set.new.self) b c.put.ensures.there c.put.ensures.others y) in
    let made_words : length made ≡ length pending = c.put.ensures.words ∙ ap length old_row ∙ reach.closure_wide.width b inside_b in
    let count : length rows ≡ length closure = omega (arith, c.join.ensures.wide.count, reach.closure_wide.count, made_words) in
    let no_way = λ (l : Leads (HasEdge edges) b a). c.requires.acyclic (subst (λ (g : Graph). Leads (HasEdge g) b a) c.self.view_is l) in
    subst (λ (g : Graph). IsReach (slice_set edges a row) g pending made c.self.inside.back.len) (sym (lent_back rows closure c.self.inside.closure.len c.self.inside.closure.ok.0 count))
    (reach_more edges closure rows pending c.self.inside.made made c.self.inside.back.len a b row reach inside c.requires.apart no_way added size joined made_is made_words c.join.ensures.wide)
