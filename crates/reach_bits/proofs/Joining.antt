-- Walks over the rows of a graph, and a row made of others.
use Rattle.std.proofs.Common.{◌≡◌, ◌≢◌, ◌↔◌, ◌⊎◌, ℕ, ◌+◌, ◌<◌, ◌≤◌, false, ◌||◌, List, [], ◌∷◌, ◌++◌, length, get_or, refl, sym, ◌∙◌, ap, subst, inl, inr, arith}
use Rattle.std.specs.Prelude.{IsTrue, slice_set}
use Rattle.std.proofs.lemmas.Bool.{cases_eq, cases_lt, true≢false}
use Rattle.std.proofs.lemmas.List.{get_or_append_left, get_or_push, length_push, length-set, get_or-set_other}
use Rattle.bit_rows.specs.Rows.{has_bit}
use Rattle.reach_bits.specs.Graph.{Graph, HasEdge, has_edge}
use Rattle.reach_bits.specs.private.Closing.{AreWide}
use Rattle.reach_bits.specs.private.Renewing.{IsOver}
use Rattle.reach_bits.proofs.RowLaws.{edge_kept, edge_written, either, has_row, past_rows, put_is, wide_written}

-- ---- rows are joined with the numbers that were added

abbrev pub IsAbove : Graph → ℕ → ℕ → Type 0
IsAbove rows a x = (x ≡ a) ⊎ HasEdge rows x a

abbrev pub IsJoinedTo : Graph → ℕ → List ℕ → ℕ → ℕ → Type 0
IsJoinedTo old a added x y = HasEdge old x y ⊎ (IsAbove old a x × IsTrue (has_bit added y))

pub record AreJoined (rows old : Graph) (a : ℕ) (added : List ℕ) (upto : ℕ) : Type 0 where
  pub wide : AreWide (length added) rows
  pub count : length rows ≡ length old
  pub done : (x y : ℕ) → x < upto → HasEdge rows x y ↔ IsJoinedTo old a added x y
  pub rest : (x : ℕ) → upto ≤ x → get_or rows x [] ≡ get_or old x []

pub joined_none : (rows : Graph) (a : ℕ) (added : List ℕ) → AreWide (length added) rows → AreJoined rows rows a added 0
joined_none rows a added wide = record { wide = wide; count = refl; done = λ x y below. absurd (omega (arith, below)); rest = λ x late. refl }

module _ (rows old : Graph) (a : ℕ) (added : List ℕ) (x : ℕ) (inside : x < length rows) (before : AreJoined rows old a added x) where
  same_edge : (y : ℕ) → has_edge rows x y ≡ has_edge old x y
  same_edge y = ap (λ (r : List ℕ). has_bit r y) (before.rest x (omega arith))

  pub above_old : IsAbove rows a x ↔ IsAbove old a x
  above_old = (
    λ s. elim s [ inl e ↦ inl e | inr h ↦ inr (sym (same_edge a) ∙ h) ],
    λ s. elim s [ inl e ↦ inl e | inr h ↦ inr (same_edge a ∙ h) ],
  )

  -- the row of a number above a
  pub joined_more : (row : List ℕ) → IsAbove rows a x → length row ≡ length added → ((y : ℕ) → has_bit row y ≡ (has_edge rows x y || has_bit added y))
      → AreJoined (slice_set rows x row) old a added (x + 1)
  joined_more row above size both = record {
    wide = wide_written (length added) rows x row size before.wide;
    count = length-set rows x row ∙ before.count;
    done = λ z y low. elim (cases_eq z x) [
      | inl same ↦
          let at = edge_written rows x row inside z y same in
          let is = either (has_edge rows x y) (has_bit added y) (has_bit row y) (both y) in
          let from : has_edge old x y ≡ has_edge old z y = ap (λ k. has_edge old k y) (sym same) in
          let up : IsAbove old a z = subst (λ (k : ℕ). IsAbove old a k) (sym same) (above_old.0 above) in (
            λ h. elim (is.0 (sym at ∙ h)) [ inl o ↦ inl (sym from ∙ sym (same_edge y) ∙ o) | inr n ↦ inr (up, n) ],
            λ s. elim s [ inl o ↦ at ∙ is.1 (inl (same_edge y ∙ from ∙ o)) | inr n ↦ at ∙ is.1 (inr n.1) ],
          )
      | inr other ↦
          let kept = edge_kept rows x row z y other in
          let old_done = before.done z y (omega (arith, low, other)) in (λ h. old_done.0 (sym kept ∙ h), λ s. kept ∙ old_done.1 s)
    ];
    rest = λ z late. get_or-set_other rows x z row [] (λ same. omega (arith, late, same)) ∙ before.rest z (omega (arith, late));
  }

  -- that of another number
  pub joined_kept : (IsAbove rows a x → ⊥) → AreJoined rows old a added (x + 1)
  joined_kept apart = record {
    wide = before.wide;
    count = before.count;
    done = λ z y low. elim (cases_eq z x) [
      | inl same ↦
          let from : has_edge rows z y ≡ has_edge old z y = ap (λ k. has_edge rows k y) same ∙ same_edge y ∙ ap (λ k. has_edge old k y) (sym same) in (
            λ h. inl (sym from ∙ h),
            λ s. elim s [ inl o ↦ from ∙ o | inr n ↦ absurd (apart (above_old.1 (subst (λ (k : ℕ). IsAbove old a k) same n.0))) ],
          )
      | inr other ↦ before.done z y (omega (arith, low, other))
    ];
    rest = λ z late. before.rest z (omega (arith, late));
  }

pub joined_all : (rows old : Graph) (a : ℕ) (added : List ℕ) (upto : ℕ) → a < length old → length rows ≤ upto → AreJoined rows old a added upto → (x y : ℕ) → HasEdge rows x y ↔ IsJoinedTo old a added x y
joined_all rows old a added upto inside whole joined x y = elim (cases_lt x upto) [
  | inl below ↦ joined.done x y below
  | inr past ↦
      let none : has_edge rows x y ≡ false = past_rows rows x y (omega (arith, whole, past)) in
      let beyond : length old ≤ x = omega (arith, whole, past, joined.count) in (
        λ h. absurd (true≢false (sym h ∙ none)),
        λ s. elim s [
          | inl o ↦ absurd (true≢false (sym o ∙ past_rows old x y beyond))
          | inr n ↦ elim n.0 [ inl same ↦ absurd (omega (arith, same, inside, beyond)) | inr h ↦ absurd (true≢false (sym h ∙ past_rows old x a beyond)) ]
        ],
      )
]

-- ---- the numbers above one are put into a set

abbrev pub AreLeading : List ℕ → Graph → ℕ → ℕ → Type 0
AreLeading leading rows a upto = (x : ℕ) → IsTrue (has_bit leading x) ↔ ((x < upto) × IsAbove rows a x)

pub leading_none : (leading : List ℕ) (rows : Graph) (a : ℕ) → ((n : ℕ) → has_bit leading n ≡ false) → AreLeading leading rows a 0
leading_none leading rows a none x = (λ h. absurd (true≢false (sym h ∙ none x)), λ s. absurd (omega (arith, s.0)))

module _ (leading : List ℕ) (rows : Graph) (a upto : ℕ) (before : AreLeading leading rows a upto) where
  pub leading_more : (new : List ℕ) → IsAbove rows a upto → IsTrue (has_bit new upto) → ((n : ℕ) → n ≢ upto → has_bit new n ≡ has_bit leading n) → AreLeading new rows a (upto + 1)
  leading_more new above there others x =
      let put = put_is (has_bit new) (has_bit leading) upto there others x in (
        λ h. elim (put.0 h) [
          | inl old ↦ let k = (before x).0 old in (omega (arith, k.0), k.1)
          | inr same ↦ (omega (arith, same), subst (λ (k : ℕ). IsAbove rows a k) (sym same) above)
        ],
        λ s. elim (cases_eq x upto) [ inl same ↦ put.1 (inr same) | inr other ↦ put.1 (inl ((before x).1 (omega (arith, s.0, other), s.1))) ],
      )

  pub leading_kept : (IsAbove rows a upto → ⊥) → AreLeading leading rows a (upto + 1)
  leading_kept apart x = (
    λ h. let k = (before x).0 h in (omega (arith, k.0), k.1),
    λ s. elim (cases_eq x upto) [
      | inl same ↦ absurd (apart (subst (λ (k : ℕ). IsAbove rows a k) same s.1))
      | inr other ↦ (before x).1 (omega (arith, s.0, other), s.1)
    ],
  )

  pub leading_all : a < length rows → length rows ≤ upto → (x : ℕ) → IsTrue (has_bit leading x) ↔ IsAbove rows a x
  leading_all inside whole x = (
    λ h. ((before x).0 h).1,
    λ s.
        let low : x < length rows = elim s [ inl same ↦ omega (arith, same, inside) | inr h ↦ has_row rows x a h ] in
        (before x).1 (omega (arith, low, whole), s),
  )

-- ---- a row is made of those that edges lead to

abbrev pub IsOverBelow : List ℕ → Graph → ℕ → ℕ → Type 0
IsOverBelow edges rows from b = (k : ℕ) × (k < from) × IsTrue (has_bit edges k) × ((b ≡ k) ⊎ HasEdge rows k b)

abbrev pub IsMade : List ℕ → List ℕ → Graph → ℕ → Type 0
IsMade made edges rows from = (b : ℕ) → IsTrue (has_bit made b) ↔ IsOverBelow edges rows from b

pub made_none : (made edges : List ℕ) (rows : Graph) → ((n : ℕ) → has_bit made n ≡ false) → IsMade made edges rows 0
made_none made edges rows none b = (λ h. absurd (true≢false (sym h ∙ none b)), λ s. absurd (omega (arith, s.1)))

pub made_more : (made joined new edges : List ℕ) (rows : Graph) (from k : ℕ) → IsMade made edges rows from
    → from ≤ k → IsTrue (has_bit edges k) → ((m : ℕ) → from ≤ m → m < k → has_bit edges m ≡ false)
    → ((n : ℕ) → has_bit joined n ≡ (has_bit made n || has_edge rows k n)) → IsTrue (has_bit new k) → ((n : ℕ) → n ≢ k → has_bit new n ≡ has_bit joined n)
    → IsMade new edges rows (k + 1)
made_more made joined new edges rows from k before late edge none both there others b =
    let put = put_is (has_bit new) (has_bit joined) k there others b in
    let is = either (has_bit made b) (has_edge rows k b) (has_bit joined b) (both b) in (
      λ h. elim (put.0 h) [
        | inl old ↦ elim (is.0 old) [
          | inl m ↦ let o = (before b).0 m in (o.0, omega (arith, o.1, late), o.2, o.3)
          | inr e ↦ (k, omega arith, edge, inr e)
        ]
        | inr same ↦ (k, omega arith, edge, inl same)
      ],
      λ s. elim (cases_eq s.0 k) [
        | inl same ↦ elim s.3 [
          | inl end ↦ put.1 (inr (end ∙ same))
          | inr e ↦ put.1 (inl (is.1 (inr (subst (λ (z : ℕ). HasEdge rows z b) same e))))
        ]
        | inr other ↦ elim (cases_lt s.0 from) [
          | inl below ↦ put.1 (inl (is.1 (inl ((before b).1 (s.0, below, s.2, s.3)))))
          | inr past ↦ absurd (true≢false (sym s.2 ∙ none s.0 past (omega (arith, s.1, other))))
        ]
      ],
    )

pub made_all : (made edges : List ℕ) (rows : Graph) (from : ℕ) → IsMade made edges rows from → ((n : ℕ) → from ≤ n → has_bit edges n ≡ false) → (b : ℕ) → IsTrue (has_bit made b) ↔ IsOver edges rows b
made_all made edges rows from before none b = (
  λ h. let o = (before b).0 h in (o.0, o.2, o.3),
  λ s. elim (cases_lt s.0 from) [ inl below ↦ (before b).1 (s.0, below, s.1, s.2) | inr past ↦ absurd (true≢false (sym s.1 ∙ none s.0 past)) ],
)

-- ---- a wider copy

pub record AreCopied (copy rows : Graph) (words upto : ℕ) : Type 0 where
  pub width : (n : ℕ) → n < length copy → length (get_or copy n []) ≡ words
  pub same : (a b : ℕ) → a < upto → has_edge copy a b ≡ has_edge rows a b

module _ (copy rows : Graph) (words upto : ℕ) (row : List ℕ) (size : length row ≡ words) (before : AreCopied copy rows words upto) where
  pushed_at : (n : ℕ) → n < length copy → get_or (copy ++ row ∷ []) n [] ≡ get_or copy n []
  pushed_at n low = get_or_append_left copy (row ∷ []) [] n low

  pub copied_width : (n : ℕ) → n < length (copy ++ row ∷ []) → length (get_or (copy ++ row ∷ []) n []) ≡ words
  copied_width n below = elim (cases_lt n (length copy)) [
    | inl low ↦ ap length (pushed_at n low) ∙ before.width n low
    | inr past ↦
        let at : length copy ≡ n = omega (arith, below, past, length_push copy row) in
        ap length (get_or_push copy row [] n at) ∙ size
  ]

  pub copied_same : ((b : ℕ) → has_bit row b ≡ has_edge rows (length copy) b) → (a b : ℕ) → a < length copy + 1 → upto ≡ length copy → has_edge (copy ++ row ∷ []) a b ≡ has_edge rows a b
  copied_same equal a b below whole = elim (cases_lt a (length copy)) [
    | inl low ↦ ap (λ (r : List ℕ). has_bit r b) (pushed_at a low) ∙ before.same a b (omega (arith, low, whole))
    | inr past ↦
        let at : length copy ≡ a = omega (arith, below, past) in
        ap (λ (r : List ℕ). has_bit r b) (get_or_push copy row [] a at) ∙ equal b ∙ ap (λ k. has_edge rows k b) at
  ]

pub copied_more : (copy rows : Graph) (words upto : ℕ) (row : List ℕ) → length row ≡ words → length copy ≡ upto → ((b : ℕ) → has_bit row b ≡ has_edge rows upto b)
    → AreCopied copy rows words upto → AreCopied (copy ++ row ∷ []) rows words (upto + 1)
copied_more copy rows words upto row size count equal before = record {
  width = copied_width copy rows words upto row size before;
  same = λ a b low. copied_same copy rows words upto row size before (λ b. equal b ∙ ap (λ k. has_edge rows k b) (sym count)) a b (omega (arith, low, count)) (sym count);
}

-- rows without edges after the last
pub copied_past : (copy rows : Graph) (words upto : ℕ) (row : List ℕ) → length row ≡ words → length copy ≡ upto → length rows ≤ upto → ((b : ℕ) → has_bit row b ≡ false)
    → AreCopied copy rows words upto → AreCopied (copy ++ row ∷ []) rows words (upto + 1)
copied_past copy rows words upto row size count past none before =
    copied_more copy rows words upto row size count (λ b. none b ∙ sym (past_rows rows upto b past)) before

pub copied_all : (copy rows : Graph) (words upto : ℕ) → length copy ≡ upto → length rows ≤ upto → AreCopied copy rows words upto → (a b : ℕ) → has_edge copy a b ≡ has_edge rows a b
copied_all copy rows words upto count whole copied a b = elim (cases_lt a upto) [
  | inl low ↦ copied.same a b low
  | inr past ↦ past_rows copy a b (omega (arith, past, count)) ∙ sym (past_rows rows a b (omega (arith, past, whole)))
]
