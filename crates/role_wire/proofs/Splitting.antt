-- How an input is split into lines.
use Rattle.std.proofs.Common.{◌≡◌, ℕ, zero, suc, ◌+◌, ◌≤◌, ◌<◌, Bool, true, false, cond, nat_lt, ◌==◌, List, [], ◌∷◌, ◌++◌, length, take, drop, get_or, drop-cons, add-one, Some, None, refl, sym, ap, subst, ◌∙◌, arith}
use Rattle.std.proofs.lemmas.List.{take-append-drop}
use Rattle.std.proofs.lemmas.Bool.{ltb-false}
use borrow.Author.Tests.{eqb-true}
use Rattle.std.proofs.lemmas.List.Quantifiers.{position-Some}
use Rattle.std.proofs.lemmas.List.Sums.{fails_before_first}
use Rattle.std.specs.List.{position, position_or_len}
use Rattle.role_wire.specs.Lines.{line_feed, split_lines, ended_lines, open_line, SplitsByPieces}
use Rattle.role_wire.specs.private.ReadProgress.{HasNoLineFeed}

pub HasNoLineFeed-append : (xs ys : List ℕ) → HasNoLineFeed xs → HasNoLineFeed ys → HasNoLineFeed (xs ++ ys)
HasNoLineFeed-append [] ys first later = later
HasNoLineFeed-append (x ∷ xs) ys first later = (first.0, HasNoLineFeed-append xs ys first.1 later)

-- a line without LF, and then LF
pub split_lines-ended : (line rest : List ℕ) → HasNoLineFeed line → split_lines (line ++ line_feed ∷ rest) ≡ line ∷ split_lines rest
split_lines-ended [] rest plain = refl
split_lines-ended (x ∷ line) rest plain = rw (plain.0, split_lines-ended line rest plain.1) refl

pub ended_lines-ended : (line rest : List ℕ) → HasNoLineFeed line → ended_lines (line ++ line_feed ∷ rest) ≡ line ∷ ended_lines rest
ended_lines-ended [] rest plain = refl
ended_lines-ended (x ∷ line) rest plain = rw (plain.0, ended_lines-ended line rest plain.1) refl

-- a last line without LF
pub split_lines-last : (x : ℕ) (line : List ℕ) → HasNoLineFeed (x ∷ line) → split_lines (x ∷ line) ≡ (x ∷ line) ∷ []
split_lines-last x [] plain = rw plain.0 refl
split_lines-last x (y ∷ line) plain = rw (plain.0, split_lines-last y line plain.1) refl

pub ended_lines-last : (line : List ℕ) → HasNoLineFeed line → ended_lines line ≡ []
ended_lines-last [] plain = refl
ended_lines-last (x ∷ line) plain = rw (plain.0, ended_lines-last line plain.1) refl

-- bytes without LF at the front of the input are at the front of the first line
pub split_lines-first : (x : ℕ) (front rest : List ℕ) → HasNoLineFeed (x ∷ front)
    → (end : List ℕ) × ((after : List (List ℕ)) × (split_lines ((x ∷ front) ++ rest) ≡ ((x ∷ front) ++ end) ∷ after))
split_lines-first x [] rest plain = first (split_lines rest) refl
  where
    first : (lines : List (List ℕ)) → split_lines rest ≡ lines → (end : List ℕ) × ((after : List (List ℕ)) × (split_lines ((x ∷ []) ++ rest) ≡ ((x ∷ []) ++ end) ∷ after))
    first [] is = ([], ([], rw (plain.0, is) refl))
    first (line ∷ lines) is = (line, (lines, rw (plain.0, is) refl))
split_lines-first x (y ∷ front) rest plain =
    let later = split_lines-first y front rest plain.1 in
    (later.0, (later.1.0, rw (plain.0, later.1.1) refl))

-- ---- the first LF in a piece

abbrev ends_line : ℕ → Bool
ends_line byte = byte == line_feed

plain_below : (xs : List ℕ) (i : ℕ) → i ≤ length xs → ((k : ℕ) → k < i → ends_line (get_or xs k 0) ≡ false) → HasNoLineFeed (take i xs)
plain_below xs zero within each = tt
plain_below [] (suc i) within each = tt
plain_below (x ∷ xs) (suc i) within each = (each 0 (omega arith), plain_below xs i (omega arith) (λ k below. each (suc k) (omega arith)))

front : (xs : List ℕ) (i : ℕ) → i < length xs → drop i xs ≡ get_or xs i 0 ∷ drop (i + 1) xs
front xs i within = rw (add-one i) (drop-cons xs i 0 within)

-- the bytes before it, and it
pub first_line_feed : (xs : List ℕ) (i : ℕ) → position ends_line xs ≡ Some i → (i < length xs) × HasNoLineFeed (take i xs) × (xs ≡ take i xs ++ line_feed ∷ drop (i + 1) xs)
first_line_feed xs i found =
    let facts = position-Some ends_line xs i 0 found in
    let byte : get_or xs i 0 ≡ line_feed = eqb-true (get_or xs i 0) line_feed facts.1 in (
      facts.0,
      plain_below xs i (omega (arith, facts.0)) facts.2,
      sym (take-append-drop i xs) ∙ ap (λ l. take i xs ++ l) (front xs i facts.0 ∙ ap (λ b. b ∷ drop (i + 1) xs) byte),
    )

none_within : (n m : ℕ) → cond (nat_lt n m) (Some n) None ≡ None → m ≤ n
none_within n m none = elim (nat_lt n m) as (λ b. nat_lt n m ≡ b → cond b (Some n) None ≡ None → m ≤ n) [ true ↦ λ e h. (cc) | false ↦ λ e h. ltb-false n m e ] refl none

-- if there is none
pub no_line_feed : (xs : List ℕ) → position ends_line xs ≡ None → HasNoLineFeed xs
no_line_feed xs none =
    let beyond : length xs ≤ position_or_len ends_line xs = none_within (position_or_len ends_line xs) (length xs) none in
    subst HasNoLineFeed (take_all xs) (plain_below xs (length xs) (omega arith) (λ k below. fails_before_first ends_line xs k 0 (omega (arith, beyond, below))))
  where
    take_all : (l : List ℕ) → take (length l) l ≡ l
    take_all [] = refl
    take_all (x ∷ l) = ap (λ m. x ∷ m) (take_all l)

-- ---- pieces

-- an input in two pieces has the lines of the whole input
pub splits_by_pieces : SplitsByPieces
splits_by_pieces [] rest = refl
splits_by_pieces (byte ∷ bytes) rest = step (byte == line_feed) refl (splits_by_pieces bytes rest) (ended_lines bytes) refl
  where
    step : (ends : Bool) → (byte == line_feed) ≡ ends → split_lines (bytes ++ rest) ≡ ended_lines bytes ++ split_lines (open_line bytes ++ rest) → (lines : List (List ℕ)) → ended_lines bytes ≡ lines
        → split_lines ((byte ∷ bytes) ++ rest) ≡ ended_lines (byte ∷ bytes) ++ split_lines (open_line (byte ∷ bytes) ++ rest)
    step true ends later lines is = rw (ends, later) refl
    step false ends later [] is = rw (ends, later, is) (rw ends refl)
    step false ends later (line ∷ lines) is = rw (ends, later, is) refl
