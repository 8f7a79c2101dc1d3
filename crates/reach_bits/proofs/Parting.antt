-- Rows are made anew, each after those that it leads to.
use Rattle.std.proofs.Common.{◌≡◌, ◌≢◌, ◌↔◌, ◌⊎◌, ℕ, ◌*◌, ◌<◌, true, false, List, [], length, get_or, sym, ◌∙◌, ap, subst, inl, inr}
use Rattle.std.specs.Prelude.{IsTrue, Option, IfSome, IfNone, slice_set}
use Rattle.std.proofs.lemmas.Bool.{cases_eq, true≢false}
use Rattle.bit_rows.specs.Rows.{has_bit}
use Rattle.reach_bits.specs.Graph.{Graph, HasEdge, Leads, has_edge, once}
use Rattle.reach_bits.specs.private.Closing.{AreWide, HasClosure, IsRight}
use Rattle.reach_bits.specs.private.Renewing.{IsOver, IsPartlyRight}
use Rattle.reach_bits.proofs.Leading.{AreLed, Leads-mono, first_step, from_step, led_less, led_more, led_trans}
use Rattle.reach_bits.proofs.Counting.{count, count_less}
use Rattle.reach_bits.proofs.RowLaws.{edge_kept, edge_written}
use Rattle.reach_bits.proofs.WordLaws.{within}

-- ---- one row

module _ (edges rows : Graph) (pending : List ℕ) (partly : IsPartlyRight edges rows pending) (at : ℕ) (inside : at < length rows)
    (is_pending : IsTrue (has_bit pending at)) (last : (k : ℕ) → HasEdge rows at k → has_bit pending k ≡ false)
    (made : List ℕ) (is_made : (b : ℕ) → IsTrue (has_bit made b) ↔ IsOver (get_or edges at []) rows b) where
  -- the rows of the numbers that its edges lead to are right
  after : (k : ℕ) → HasEdge edges at k → IsRight edges rows k
  after k edge = partly.right k (last k (partly.covers at k is_pending edge))

  made_right : (b : ℕ) → IsTrue (has_bit made b) ↔ Leads (HasEdge edges) at b
  made_right b = (
    λ h. let over = (is_made b).0 h in from_step (HasEdge edges) at b over.0 over.1 (elim over.2 [ inl same ↦ inl same | inr e ↦ inr ((after over.0 over.1 b).0 e) ]),
    λ l.
        let first = first_step (HasEdge edges) l in
        (is_made b).1 (first.0, first.1, elim first.2 [ inl same ↦ inl same | inr more ↦ inr ((after first.0 first.1 b).1 more) ]),
  )

  module _ (left : List ℕ) (gone : has_bit left at ≡ false) (others : (n : ℕ) → n ≢ at → has_bit left n ≡ has_bit pending n) where
    not_at : (a : ℕ) → IsTrue (has_bit left a) → a ≢ at
    not_at a there same = true≢false (sym there ∙ ap (has_bit left) same ∙ gone)

    still : (a : ℕ) → IsTrue (has_bit left a) → IsTrue (has_bit pending a)
    still a there = sym (others a (not_at a there)) ∙ there

    same_row : (a b : ℕ) → IsTrue (has_bit left a) → has_edge (slice_set rows at made) a b ≡ has_edge rows a b
    same_row a b there = edge_kept rows at made a b (not_at a there)

    pub settled_more : IsPartlyRight edges (slice_set rows at made) left
    settled_more = record {
      right = λ a none b. elim (cases_eq a at) [
        | inl same ↦
            let is = edge_written rows at made inside a b same in (
              λ h. subst (λ (k : ℕ). Leads (HasEdge edges) k b) (sym same) ((made_right b).0 (sym is ∙ h)),
              λ l. is ∙ (made_right b).1 (subst (λ (k : ℕ). Leads (HasEdge edges) k b) same l),
            )
        | inr other ↦
            let kept = edge_kept rows at made a b other in
            let right = partly.right a (sym (others a other) ∙ none) b in (λ h. right.0 (sym kept ∙ h), λ l. kept ∙ right.1 l)
      ];
      covers = λ a k there edge. same_row a k there ∙ partly.covers a k (still a there) edge;
      falls = λ a k b a_there k_there ak kb.
          same_row a b a_there ∙ partly.falls a k b (still a a_there) (still k k_there) (sym (same_row a k a_there) ∙ ak) (sym (same_row k b k_there) ∙ kb);
      acyclic = λ a there h. partly.acyclic a (still a there) (sym (same_row a a there) ∙ h);
    }

-- ---- the beginning and the end

led : (edges closure : Graph) → HasClosure edges closure → AreLed (HasEdge edges) (HasEdge closure)
led edges closure closed = record { right = closed.right; acyclic = closed.acyclic }

pub closure_trans : (edges closure : Graph) → HasClosure edges closure → (a b c : ℕ) → HasEdge closure a b → HasEdge closure b c → HasEdge closure a c
closure_trans edges closure closed = led_trans (HasEdge edges) (HasEdge closure) (led edges closure closed)

module _ (edges left closure : Graph) (a b : ℕ) (closed : HasClosure edges closure) (removed : (x y : ℕ) → HasEdge left x y ↔ (HasEdge edges x y × ((x ≡ a) × (y ≡ b) → ⊥))) where
  -- what is not a and doesn't lead to it keeps its row
  pub settled_none : (pending : List ℕ) → ((x : ℕ) → IsTrue (has_bit pending x) ↔ ((x ≡ a) ⊎ HasEdge closure x a)) → IsPartlyRight left closure pending
  settled_none pending leading = record {
    right = λ x none y.
        led_less (HasEdge edges) (HasEdge closure) (HasEdge left) a b (led edges closure closed) removed x y
        (λ same. true≢false (sym ((leading x).1 (inl same)) ∙ none)) (λ h. true≢false (sym ((leading x).1 (inr h)) ∙ none));
    covers = λ x k there edge. (closed.right x k).1 (once ((removed x k).0 edge).0);
    falls = λ x k y x_there k_there xk ky. closure_trans edges closure closed x k y xk ky;
    acyclic = λ x there h. closed.acyclic x h;
  }

  pub closed_less : (rows : Graph) → ((x : ℕ) → IsRight left rows x) → HasClosure left rows
  closed_less rows right = record {
    right = right;
    acyclic = λ x h. closed.acyclic x ((closed.right x x).1 (Leads-mono (HasEdge left) (HasEdge edges) (λ k m e. ((removed k m).0 e).0) ((right x x).0 h)));
  }

-- an edge is added
pub closed_more : (edges more closure rows : Graph) (a b : ℕ) → HasClosure edges closure → a ≢ b → (Leads (HasEdge edges) b a → ⊥)
    → ((x y : ℕ) → HasEdge more x y ↔ (HasEdge edges x y ⊎ ((x ≡ a) × (y ≡ b))))
    → ((x y : ℕ) → HasEdge rows x y ↔ (HasEdge closure x y ⊎ (((x ≡ a) ⊎ HasEdge closure x a) × ((y ≡ b) ⊎ HasEdge closure b y))))
    → HasClosure more rows
closed_more edges more closure rows a b closed apart no_way added joined =
    let new = led_more (HasEdge edges) (HasEdge closure) (HasEdge more) (HasEdge rows) a b (led edges closure closed) apart (λ h. no_way ((closed.right b a).0 h)) added joined in
    record { right = new.right; acyclic = new.acyclic }

-- ---- where to go on

-- fewer are pending without one of them
pub pending_less : (left pending : List ℕ) (at : ℕ) → length left ≡ length pending → IsTrue (has_bit pending at) → has_bit left at ≡ false
    → ((n : ℕ) → n ≢ at → has_bit left n ≡ has_bit pending n) → count (has_bit left) (64 * length left) < count (has_bit pending) (64 * length pending)
pending_less left pending at size there gone others =
    let more : (n : ℕ) → has_bit left n ≡ true → has_bit pending n ≡ true =
    λ n h. elim (cases_eq n at) [ inl same ↦ absurd (true≢false (sym h ∙ ap (has_bit left) same ∙ gone)) | inr other ↦ sym (others n other) ∙ h ] in
    subst (λ m. count (has_bit left) (64 * m) < count (has_bit pending) (64 * length pending)) (sym size)
    (count_less (has_bit left) (has_bit pending) (64 * length pending) at more (within pending at there) gone there)

pub record IsSettling (edges rows : Graph) (pending made : List ℕ) (next : Option ℕ) (words : ℕ) : Type 0 where
  pub wide : AreWide words rows
  pub pending_words : length pending ≡ words
  pub made_words : length made ≡ words
  pub partly : IsPartlyRight edges rows pending
  pub some : IfSome next (λ n. IsTrue (has_bit pending n))
  pub none : IfNone next ((n : ℕ) → has_bit pending n ≡ false)
