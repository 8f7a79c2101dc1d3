-- What is kept of a graph, from its beginning on.
use Rattle.std.proofs.Common.{◌≡◌, ◌≢◌, ◌↔◌, ◌⊎◌, ℕ, ◌*◌, ◌<◌, ◌≤◌, false, List, [], ◌++◌, length, take, drop, sym, ◌∙◌, ap, inl, inr, arith}
use Rattle.std.specs.Prelude.{IsTrue, slice_set}
use Rattle.std.proofs.lemmas.Bool.{true≢false}
use Rattle.std.proofs.lemmas.List.{append-nil, drop_all, take_all}
use Rattle.bit_rows.specs.Rows.{has_bit}
use Rattle.reach_bits.specs.Graph.{Graph, HasEdge, Leads, has_edge}
use Rattle.reach_bits.specs.private.Closing.{AreWide, HasClosure, IsReach, IsRight}
use Rattle.reach_bits.proofs.Leading.{Leads-mono, first_step}
use Rattle.reach_bits.proofs.RowLaws.{past_rows, wide_at, wide_written}
use Rattle.reach_bits.proofs.Parting.{closed_less, closed_more}

-- ---- no edges

no_edge : (rows : Graph) → rows ≡ [] → (a b : ℕ) → has_edge rows a b ≡ false
no_edge rows none a b = let size : length rows ≡ 0 = ap length none in past_rows rows a b (omega (arith, size))

no_rows : (rows : Graph) (pending : List ℕ) → rows ≡ [] → pending ≡ [] → AreWide (length pending) rows
no_rows rows pending none words =
    let size : length rows ≡ 0 = ap length none in
    let width : length pending ≡ 0 = ap length words in
    record { count = omega (arith, size, width); width = λ n below. absurd (omega (arith, below, size)) }

pub reach_none : (edges closure : Graph) (pending made : List ℕ) (back : ℕ) → edges ≡ [] → closure ≡ [] → pending ≡ [] → made ≡ [] → back ≡ 0 → IsReach edges closure pending made back
reach_none edges closure pending made back edges_none closure_none pending_none made_none back_none =
    let edge_count : length edges ≡ 0 = ap length edges_none in
    let words : length pending ≡ 0 = ap length pending_none in
    let made_words : length made ≡ 0 = ap length made_none in
    record {
      edges_wide = no_rows edges pending edges_none pending_none;
      closure_wide = no_rows closure pending closure_none pending_none;
      closed = record {
        right = λ a b. (
          λ h. absurd (true≢false (sym h ∙ no_edge closure closure_none a b)),
          λ l. let first = first_step (HasEdge edges) l in absurd (true≢false (sym first.1 ∙ no_edge edges edges_none a first.0)),
        );
        acyclic = λ a h. true≢false (sym h ∙ no_edge closure closure_none a a);
      };
      made_words = omega (arith, made_words, words);
      back_count = omega (arith, back_none, edge_count);
      most = omega (arith, words);
    }

-- ---- a wider copy

closed_same : (edges closure edges' closure' : Graph) → ((a b : ℕ) → has_edge edges' a b ≡ has_edge edges a b) → ((a b : ℕ) → has_edge closure' a b ≡ has_edge closure a b)
    → HasClosure edges closure → HasClosure edges' closure'
closed_same edges closure edges' closure' same_edges same_closure closed = record {
  right = λ a b. (
    λ h. Leads-mono (HasEdge edges) (HasEdge edges') (λ x y e. same_edges x y ∙ e) ((closed.right a b).0 (sym (same_closure a b) ∙ h)),
    λ l. same_closure a b ∙ (closed.right a b).1 (Leads-mono (HasEdge edges') (HasEdge edges) (λ x y e. sym (same_edges x y) ∙ e) l),
  );
  acyclic = λ a h. closed.acyclic a (sym (same_closure a a) ∙ h);
}

pub reach_widened :
    (edges closure edges' closure' : Graph) (pending' made' : List ℕ) (back' words : ℕ) → HasClosure edges closure
    → ((a b : ℕ) → has_edge edges' a b ≡ has_edge edges a b) → ((a b : ℕ) → has_edge closure' a b ≡ has_edge closure a b)
    → AreWide words edges' → AreWide words closure' → length pending' ≡ words → length made' ≡ words → back' ≡ 64 * words → words ≤ 128
    → IsReach edges' closure' pending' made' back'
reach_widened edges closure edges' closure' pending' made' back' words closed same_edges same_closure edges_wide closure_wide pending_words made_words back_count most = record {
  edges_wide = wide_at words (length pending') edges' (sym pending_words) edges_wide;
  closure_wide = wide_at words (length pending') closure' (sym pending_words) closure_wide;
  closed = closed_same edges closure edges' closure' same_edges same_closure closed;
  made_words = made_words ∙ sym pending_words;
  back_count = back_count ∙ sym edges_wide.count;
  most = omega (arith, pending_words, most);
}

-- ---- a change

-- rows that were lent are written back
pub lent_back : (rows old : Graph) (len : ℕ) → len ≡ length old → length rows ≡ length old → take len (rows ++ drop (length rows) old) ≡ rows
lent_back rows old len count same =
    ap (λ (rest : Graph). take len (rows ++ rest)) (drop_all (length rows) old (omega (arith, same))) ∙ ap (take len) (append-nil rows) ∙ take_all len rows (omega (arith, count, same))

-- an edge was added: its row, and rows that were joined
pub reach_more :
    (edges closure rows : Graph) (pending made made' : List ℕ) (back : ℕ) (a b : ℕ) (row : List ℕ) → IsReach edges closure pending made back
    → a < length edges → a ≢ b → (Leads (HasEdge edges) b a → ⊥)
    → ((x y : ℕ) → HasEdge (slice_set edges a row) x y ↔ (HasEdge edges x y ⊎ ((x ≡ a) × (y ≡ b)))) → length row ≡ length pending
    → ((x y : ℕ) → HasEdge rows x y ↔ (HasEdge closure x y ⊎ (((x ≡ a) ⊎ HasEdge closure x a) × IsTrue (has_bit made' y))))
    → ((y : ℕ) → IsTrue (has_bit made' y) ↔ (HasEdge closure b y ⊎ (y ≡ b))) → length made' ≡ length pending → AreWide (length made') rows
    → IsReach (slice_set edges a row) rows pending made' back
reach_more edges closure rows pending made made' back a b row reach inside apart no_way added size joined made_is made_words wide =
    let edges_wide = wide_written (length pending) edges a row size reach.edges_wide in
    record {
      edges_wide = edges_wide;
      closure_wide = wide_at (length made') (length pending) rows made_words wide;
      closed = closed_more edges (slice_set edges a row) closure rows a b reach.closed apart no_way added (λ x y. (
        λ h. elim ((joined x y).0 h) [
          | inl old ↦ inl old
          | inr new ↦ inr (new.0, elim ((made_is y).0 new.1) [ inl c ↦ inr c | inr end ↦ inl end ])
        ],
        λ s. elim s [
          | inl old ↦ (joined x y).1 (inl old)
          | inr new ↦ (joined x y).1 (inr (new.0, elim new.1 [ inl end ↦ (made_is y).1 (inr end) | inr c ↦ (made_is y).1 (inl c) ]))
        ],
      ));
      made_words = made_words;
      back_count = reach.back_count ∙ reach.edges_wide.count ∙ sym edges_wide.count;
      most = reach.most;
    }

-- an edge was removed: its row, and rows that were made anew
pub reach_less :
    (edges closure rows : Graph) (pending made pending' made' : List ℕ) (back back' : ℕ) (a b : ℕ) (row : List ℕ) → IsReach edges closure pending made back
    → ((x y : ℕ) → HasEdge (slice_set edges a row) x y ↔ (HasEdge edges x y × ((x ≡ a) × (y ≡ b) → ⊥))) → length row ≡ length pending
    → ((x : ℕ) → IsRight (slice_set edges a row) rows x) → length pending' ≡ length pending → length made' ≡ length pending → AreWide (length pending) rows → back' ≡ back
    → IsReach (slice_set edges a row) rows pending' made' back'
reach_less edges closure rows pending made pending' made' back back' a b row reach removed size right pending_words made_words wide back_same =
    let edges_wide = wide_written (length pending) edges a row size reach.edges_wide in
    record {
      edges_wide = wide_at (length pending) (length pending') (slice_set edges a row) (sym pending_words) edges_wide;
      closure_wide = wide_at (length pending) (length pending') rows (sym pending_words) wide;
      closed = closed_less edges (slice_set edges a row) closure a b reach.closed removed rows right;
      made_words = made_words ∙ sym pending_words;
      back_count = back_same ∙ reach.back_count ∙ reach.edges_wide.count ∙ sym edges_wide.count;
      most = omega (arith, pending_words, reach.most);
    }
