-- The rows that are copied, one after the other, and what is behind them.
use Rattle.std.proofs.Common.{inl, inr, ◌≡◌, ◌⊎◌, ◌<◌, ◌≤◌, ◌+◌, ◌-◌, ◌∙◌, ℕ, List, [], ◌∷◌, ◌++◌, length, map, take, drop, set, refl, sym, ap, subst, arith, length-append, drop-drop, drop-set-lt}
use Rattle.std.specs.Prelude.{Bool, false, IsTrue, Option, None, Some, slice_get}
use Rattle.std.specs.List.{flat_map}
use Rattle.std.proofs.lemmas.Bool.{cases_lt, true≢false}
use Rattle.std.proofs.lemmas.List.{map-append, flat_map_more, length-map, length-set, take-append-drop}
use Rattle.std.proofs.lemmas.Grind.{take-set_at}
use Rattle.role_lines.specs.StoredRow.{Parts, names_in}
use Rattle.role_lines.proofs.RowsFrom.{get_from}
use Rattle.rbac_c.specs.Calls.{AreRowsAt, Buffers, CopiesSome, IsPast, lengths_of, over}
use Rattle.rbac_c.specs.declared.calls.RowLengths.{RowLengths}
use Rattle.rbac_c.specs.private.Copied.{is_row_of}

-- what is the same behind a place is the same behind a later one
pub same_behind : {X : Type 0} (m n : ℕ) (xs ys : List X) → m ≤ n → drop m xs ≡ drop m ys → drop n xs ≡ drop n ys
same_behind m n xs ys le same =
    let sum : m + (n - m) ≡ n = omega (arith, le) in
    ap (λ k. drop k xs) (sym sum) ∙ sym (drop-drop (n - m) m xs) ∙ ap (drop (n - m)) same ∙ drop-drop (n - m) m ys ∙ ap (λ k. drop k ys) sum

-- a list whose front was written, and that is the same behind it
pub is_over : {X : Type 0} (at : ℕ) (front now before : List X) → at ≡ length front → take at now ≡ front → drop at now ≡ drop at before → now ≡ over front before
is_over at front now before ends first behind =
    let rest : drop at now ≡ drop (length front) before = behind ∙ ap (λ k. drop k before) ends in
    sym (take-append-drop at now) ∙ ap (λ some. some ++ drop at now) first ∙ ap (λ some. front ++ some) rest

-- so many rows are copied so far, and their names end before the place `at`; behind them both buffers are as before
pub record HasCopied (is_at : ℕ → Option Parts → Type 0) (index : ℕ) (before out : List ℕ) (lengths_before lengths : List RowLengths) (at count : ℕ) : Type 0 where
  pub rows : List Parts
  pub counted : count ≡ length rows
  pub are : AreRowsAt is_at index rows
  pub ends : at ≡ length (flat_map names_in rows)
  pub within : at ≤ length out
  pub room : count ≤ length lengths
  pub names : take at out ≡ flat_map names_in rows
  pub lengths_are : take count lengths ≡ map lengths_of rows
  pub behind : drop at out ≡ drop at before
  pub lengths_behind : drop count lengths ≡ drop count lengths_before

module _ (is_at : ℕ → Option Parts → Type 0) where
  pub none_copied : (index : ℕ) (out : List ℕ) (lengths : List RowLengths) → HasCopied is_at index out out lengths lengths 0 0
  none_copied index out lengths = record {
    rows = [];
    counted = refl;
    are = tt;
    ends = refl;
    within = omega arith;
    room = omega arith;
    names = refl;
    lengths_are = refl;
    behind = refl;
    lengths_behind = refl;
  }

  -- one more row, behind these
  are-more : (index : ℕ) (rows : List Parts) (row : Parts) → AreRowsAt is_at index rows → is_at (index + length rows) (Some row) → AreRowsAt is_at index (rows ++ row ∷ [])
  are-more index [] row are more = (subst (λ n. is_at n (Some row)) (omega arith) more, tt)
  are-more index (first ∷ rows) row are more = (are.0, are-more (index + 1) rows row are.1 (subst (λ n. is_at n (Some row)) (omega arith) more))

  pub one_more : (index : ℕ) (before out : List ℕ) (lengths_before lengths : List RowLengths) (at count : ℕ) (row : Parts) (after : List ℕ) (end : ℕ)
      → HasCopied is_at index before out lengths_before lengths at count
      → is_at (index + count) (Some row) → count < length lengths → end ≤ length after → end ≡ at + length (names_in row)
      → take end after ≡ take at out ++ names_in row → drop end after ≡ drop end out
      → HasCopied is_at index before after lengths_before (set lengths count (lengths_of row)) end (count + 1)
  one_more index before out lengths_before lengths at count row after end h is room within ends names behind = record {
    rows = h.rows ++ row ∷ [];
    counted = ap (λ n. n + 1) h.counted ∙ sym (length-append h.rows (row ∷ []));
    are = are-more index h.rows row h.are (subst (λ n. is_at (index + n) (Some row)) h.counted is);
    ends = ends ∙ ap (λ n. n + length (names_in row)) h.ends ∙ sym (length-append (flat_map names_in h.rows) (names_in row)) ∙ ap length (flat_map_more names_in [] h.rows row);
    within = within;
    room = omega (arith, room, length-set lengths count (lengths_of row));
    names = names ∙ ap (λ text. text ++ names_in row) h.names ∙ flat_map_more names_in [] h.rows row;
    lengths_are = take-set_at lengths count (count + 1) (lengths_of row) refl room ∙ ap (λ some. some ++ lengths_of row ∷ []) h.lengths_are ∙ sym (map-append lengths_of h.rows (row ∷ []));
    behind = behind ∙ same_behind at end out before (omega (arith, ends)) h.behind;
    lengths_behind = drop-set-lt (count + 1) lengths count (lengths_of row) (omega arith) ∙ same_behind count (count + 1) lengths lengths_before (omega arith) h.lengths_behind;
  }

  -- the rows that were copied are all there are, or that there is room for
  pub copied : (index : ℕ) (before out : List ℕ) (lengths_before lengths : List RowLengths) (at count : ℕ)
      → (h : HasCopied is_at index before out lengths_before lengths at count)
      → (length h.rows ≡ length lengths) ⊎ (IsPast is_at (index + length h.rows)
      ⊎ ((row : Parts) × (is_at (index + length h.rows) (Some row) × (length out < length (flat_map names_in h.rows) + length (names_in row)))))
      → CopiesSome is_at index (before, lengths_before) (out, lengths) count
  copied index before out lengths_before lengths at count h last = (
    h.rows,
    (
      h.counted,
      record {
        are = h.are;
        names = is_over at (flat_map names_in h.rows) out before h.ends h.names h.behind;
        lengths_are = is_over count (map lengths_of h.rows) lengths lengths_before (h.counted ∙ sym (length-map h.rows lengths_of)) h.lengths_are h.lengths_behind;
        last = last;
      },
    ),
  )

-- ---- the rows of a list

-- the first of those that are left is at its place, and so are those behind it
pub next_row : (n : ℕ) (rows left rest : List Parts) (row : Parts) → left ≡ drop n rows → left ≡ row ∷ rest → is_row_of rows (0 + n) (Some row) × (rest ≡ drop (n + 1) rows)
next_row n rows left rest row are is =
    let same : drop n rows ≡ row ∷ rest = sym are ∙ is in
    let at : n + 0 ≡ 0 + n = omega arith in (
      ap (λ l. slice_get l 0) (sym same) ∙ get_from n 0 rows ∙ ap (slice_get rows) at,
      ap (drop 1) (sym same) ∙ drop-drop 1 n rows,
    )

-- none is left
no_row : (n : ℕ) (rows left : List Parts) → left ≡ drop n rows → left ≡ [] → is_row_of rows (0 + n) None
no_row n rows left are none =
    let same : drop n rows ≡ [] = sym are ∙ none in
    let at : n + 0 ≡ 0 + n = omega arith in
    ap (λ l. slice_get l 0) (sym same) ∙ get_from n 0 rows ∙ ap (slice_get rows) at

module _ (rows : List Parts) (before out : List ℕ) (lengths_before lengths : List RowLengths) (at count : ℕ) (h : HasCopied (is_row_of rows) 0 before out lengths_before lengths at count) where
  -- the row behind those that were copied
  is_behind : (row : Option Parts) → is_row_of rows (0 + count) row → is_row_of rows (0 + length h.rows) row
  is_behind row is = is ∙ ap (λ n. slice_get rows (0 + n)) h.counted

  -- all are copied
  pub all_copied : (left : List Parts) → left ≡ drop count rows → left ≡ [] → CopiesSome (is_row_of rows) 0 (before, lengths_before) (out, lengths) count
  all_copied left are none =
      copied (is_row_of rows) 0 before out lengths_before lengths at count h (inr (inl (inr (is_behind None (no_row count rows left are none)))))

  -- there is no room for the names of the next one, as a test says that is true if there is
  pub no_room : (left rest : List Parts) (row : Parts) (fits : Bool) → left ≡ drop count rows → left ≡ row ∷ rest → (length (names_in row) ≤ length out - at → IsTrue fits) → fits ≡ false
      → CopiesSome (is_row_of rows) 0 (before, lengths_before) (out, lengths) count
  no_room left rest row fits are is enough unfit =
      let next = next_row count rows left rest row are is in
      let long : length out < at + length (names_in row) = elim (cases_lt (length out) (at + length (names_in row))) [
        | inl long ↦ long
        | inr short ↦ absurd (true≢false (sym (enough (omega (arith, short, h.within))) ∙ unfit))
      ] in
      copied (is_row_of rows) 0 before out lengths_before lengths at count h
      (inr (inr (row, (is_behind (Some row) next.0, subst (λ n. length out < n + length (names_in row)) h.ends long))))

-- they are at the places of a table from an index on
module _ (is_at : ℕ → Option Parts → Type 0) (index : ℕ) (rows : List Parts) (holds : (place : ℕ) → is_at (index + place) (slice_get rows place)) where
  are_shifted : (n : ℕ) (some : List Parts) → AreRowsAt (is_row_of rows) n some → AreRowsAt is_at (index + n) some
  are_shifted n [] are = tt
  are_shifted n (row ∷ some) are = (
    subst (is_at (index + n)) (sym are.0) (holds n),
    subst (λ k. AreRowsAt is_at k some) (omega arith) (are_shifted (n + 1) some are.1),
  )

  pub copied_from : (before now : Buffers (List RowLengths)) (count : ℕ) → CopiesSome (is_row_of rows) 0 before now count → CopiesSome is_at index before now count
  copied_from before now count (some, (counted, from)) =
      let start : index + 0 ≡ index = omega arith in
      let end : 0 + length some ≡ length some = omega arith in (
        some,
        (
          counted,
          record {
            are = subst (λ k. AreRowsAt is_at k some) start (are_shifted 0 some from.are);
            names = from.names;
            lengths_are = from.lengths_are;
            last = elim from.last [
              | inl all ↦ inl all
              | inr (inl (inl far)) ↦ inr (inl (inl (omega arith)))
              | inr (inl (inr none)) ↦ inr (inl (inr (subst (is_at (index + length some)) (sym (none ∙ ap (slice_get rows) end)) (holds (length some)))))
              | inr (inr (row, (is, long))) ↦ inr (inr (row, (subst (is_at (index + length some)) (sym (is ∙ ap (slice_get rows) end)) (holds (length some)), long)))
            ];
          },
        ),
      )
