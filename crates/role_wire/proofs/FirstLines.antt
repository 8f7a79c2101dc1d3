-- A replay that stopped has written the first answers to the bytes that it read.
use Rattle.std.proofs.Common.{◌≡◌, ◌⊎◌, ◌≤◌, ◌<◌, append_assoc, inl, inr, ℕ, suc, not, true, false, List, [], ◌∷◌, ◌++◌, length, length-append, take, Option, Some, refl, sym, ap, subst, ◌∙◌, arith}
use Rattle.std.specs.Prelude.{slice_get}
use Rattle.std.specs.Io.KnownBytes.{Appends}
use Rattle.std.proofs.lemmas.Bool.{lt-ltb, le-ltb}
use Rattle.std.proofs.lemmas.List.{append-nil, take_at}
use Rattle.std.proofs.lemmas.List.Elements.{All-head, All-tail}
use Rattle.sqlite.specs.Held.{Held}
use Rattle.sqlite.specs.State.{State}
use Rattle.admin_mgr.specs.RbacState.{RbacState}
use Rattle.role_tables.specs.Office.{OfficeModel}
use Rattle.role_wire.specs.Lines.{AllFit, asking, ended_lines, fits, fitting, is_blank, line_feed, longest_line, split_lines, with_line_feeds}
use Rattle.role_wire.specs.Outcome.{after_line, after_lines, answer_to, answers_to, lines}
use Rattle.role_wire.specs.Replay.{IsNext, LeavesOff}
use Rattle.role_wire.specs.OfficeReplay.{IsHalted, LeavesNext, WritesFirst}
use Rattle.role_wire.specs.declared.lines.Cause.{Cause}
use Rattle.role_wire.specs.declared.lines.Cause.TheVariants as cause
use Rattle.role_wire.proofs.Answering.{asking-append}
use Rattle.role_wire.proofs.Splitting.{splits_by_pieces}

-- ---- lines that fit

fits-true : (line : List ℕ) → length line ≤ longest_line → fits line ≡ true
fits-true line short = ap not (le-ltb longest_line (length line) short)

fits-false : (line : List ℕ) → longest_line < length line → fits line ≡ false
fits-false line long = ap not (lt-ltb longest_line (length line) long)

pub fitting-front : (before rest : List (List ℕ)) → AllFit before → fitting (before ++ rest) ≡ before ++ fitting rest
unfolding fitting
fitting-front [] rest fit = refl
fitting-front (line ∷ before) rest fit = rw (fits-true line (All-head (λ (line : List ℕ). length line ≤ longest_line) line before fit)) (ap (λ l. line ∷ l) (fitting-front before rest (All-tail (λ (line : List ℕ). length line ≤ longest_line) line before fit)))

pub fitting-all : (all : List (List ℕ)) → AllFit all → fitting all ≡ all
unfolding fitting
fitting-all [] fit = refl
fitting-all (line ∷ all) fit = rw (fits-true line (All-head (λ (line : List ℕ). length line ≤ longest_line) line all fit)) (ap (λ l. line ∷ l) (fitting-all all (All-tail (λ (line : List ℕ). length line ≤ longest_line) line all fit)))

fitting-next : (line : List ℕ) (rest : List (List ℕ)) → length line ≤ longest_line → fitting (line ∷ rest) ≡ line ∷ fitting rest
unfolding fitting
fitting-next line rest short = rw (fits-true line short) refl

fitting-cut : (line : List ℕ) (rest : List (List ℕ)) → longest_line < length line → fitting (line ∷ rest) ≡ []
unfolding fitting
fitting-cut line rest long = rw (fits-false line long) refl

asking-next : (line : List ℕ) (rest : List (List ℕ)) → is_blank line ≡ false → asking (line ∷ rest) ≡ line ∷ asking rest
unfolding asking
asking-next line rest asks = rw asks refl

asking-none : asking [] ≡ []
unfolding asking
asking-none = refl

-- ---- their answers

answers_to-append : (S : RbacState) (xs ys : List (List ℕ)) → answers_to S (xs ++ ys) ≡ answers_to S xs ++ answers_to (after_lines S xs) ys
unfolding answers_to after_lines
answers_to-append S [] ys = refl
answers_to-append S (x ∷ xs) ys = ap (λ l. answer_to S x ∷ l) (answers_to-append (after_line S x) xs ys)

pub answers_to-length : (S : RbacState) (asked : List (List ℕ)) → length (answers_to S asked) ≡ length asked
unfolding answers_to
answers_to-length S [] = refl
answers_to-length S (line ∷ rest) = ap (λ n. suc n) (answers_to-length (after_line S line) rest)

slice_get-front : {X : Type 0} → (xs ys : List X) (y : X) → slice_get (xs ++ y ∷ ys) (length xs) ≡ Some y
slice_get-front [] ys y = refl
slice_get-front (x ∷ xs) ys y = slice_get-front xs ys y

-- ---- the lines that are done are the first that ask

-- the part of an answer that was written is empty, or a part of the answer to the first of the lines that follow
abbrev IsPart : RbacState → List (List ℕ) → List ℕ → List (List ℕ) → Type 0
IsPart S done part more = (part ≡ []) ⊎ ((line : List ℕ) × (later : List (List ℕ)) × (rest : List ℕ) × (more ≡ line ∷ later) × (answer_to (after_lines S done) line ++ line_feed ∷ [] ≡ part ++ rest) × (1 ≤ length rest))

abbrev AreFirst : RbacState → List ℕ → List (List ℕ) → List ℕ → Type 0
AreFirst S taken done part = (more : List (List ℕ)) × (asking (fitting (split_lines taken)) ≡ done ++ more) × IsPart S done part more

module _ (taken : List ℕ) (done : List (List ℕ)) where
  -- the lines begin with those that ended
  ends_first : (last : List (List ℕ)) × (split_lines taken ≡ ended_lines taken ++ last)
  ends_first = (_, ap split_lines (sym (append-nil taken)) ∙ splits_by_pieces taken [])

  first_of : (before rest : List (List ℕ)) → split_lines taken ≡ before ++ rest → AllFit before → asking before ≡ done → asking (fitting (split_lines taken)) ≡ done ++ asking (fitting rest)
  first_of before rest is fit asks =
      ap (λ all. asking (fitting all)) is ∙ ap asking (fitting-front before rest fit) ∙ asking-append before (fitting rest) ∙ ap (λ front. front ++ asking (fitting rest)) asks

  -- what follows lines that ended
  ended_first : (before rest : List (List ℕ)) → ended_lines taken ≡ before ++ rest → (last : List (List ℕ)) × (split_lines taken ≡ before ++ (rest ++ last))
  ended_first before rest is = (ends_first.0, ends_first.1 ∙ ap (λ l. l ++ ends_first.0) is ∙ append_assoc before rest ends_first.0)

  next_first : (before rest : List (List ℕ)) (line : List ℕ) → split_lines taken ≡ before ++ line ∷ rest → AllFit before → asking before ≡ done → is_blank line ≡ false → length line ≤ longest_line
      → asking (fitting (split_lines taken)) ≡ done ++ line ∷ asking (fitting rest)
  next_first before rest line is fit asks unblank short =
      first_of before (line ∷ rest) is fit asks ∙ ap (λ l. done ++ asking l) (fitting-next line rest short) ∙ ap (λ l. done ++ l) (asking-next line (fitting rest) unblank)

  is_next : (line : List ℕ) (at_end : Type 0) → IsNext done line taken at_end → (later : List (List ℕ)) × (asking (fitting (split_lines taken)) ≡ done ++ line ∷ later)
  is_next line at_end (before, after, inl ended, asks, unblank, fit, short) =
      let all = ended_first before (line ∷ after) ended in
      (_, next_first before (after ++ all.0) line all.1 fit asks unblank short)
  is_next line at_end (before, after, inr (end, all), asks, unblank, fit, short) = (_, next_first before after line all fit asks unblank short)

  leaves_off : (why : Cause) → LeavesOff why done taken → (more : List (List ℕ)) × (asking (fitting (split_lines taken)) ≡ done ++ more)
  leaves_off cause.Read (asks, fit) =
      (_, ap asking (fitting-all (split_lines taken) fit ∙ ends_first.1) ∙ asking-append (ended_lines taken) ends_first.0 ∙ ap (λ l. l ++ asking ends_first.0) asks)
  leaves_off (cause.Line number) (before, after, line, all, asks, fit, long, _) =
      ([], first_of before (line ∷ after) all fit asks ∙ ap (λ l. done ++ asking l) (fitting-cut line after long) ∙ ap (λ l. done ++ l) asking-none)
  leaves_off cause.Memory (before, after, ended, asks, fit) =
      let all = ended_first before after ended in
      (_, first_of before (after ++ all.0) all.1 fit asks)
  leaves_off cause.Write none = absurd none
  leaves_off cause.Store none = absurd none
  leaves_off cause.Closed none = absurd none

module _ {S : Type 0} (shown : Held S → State) (old new : OfficeModel S) (taken : List ℕ) where
  part_of : (why : Cause) (done : List (List ℕ)) (line part : List ℕ) (later : List (List ℕ)) → LeavesNext shown why old done line part new → IsPart old.facts done part (line ∷ later)
  part_of cause.Write done line part later (_, (rest, is, some)) = inr (line, later, rest, refl, is, some)
  part_of cause.Store done line part later (_, _, none) = inl none
  part_of cause.Memory done line part later (_, none) = inl none
  part_of cause.Read done line part later none = absurd none
  part_of (cause.Line number) done line part later none = absurd none
  part_of cause.Closed done line part later none = absurd none

  are_first : (at_end : Type 0) (written now_written : Option (List ℕ)) (why : Cause) (answered : ℕ) (it : IsHalted shown old new taken at_end written now_written why answered) → AreFirst old.facts taken it.done it.part
  are_first at_end written now_written why answered it = elim it.left [
    | inl (line, next, leaves) ↦ let (later, is) = is_next taken it.done line at_end next in (line ∷ later, is, part_of why it.done line it.part later leaves)
    | inr (off, _, none) ↦ let (more, is) = leaves_off taken it.done why off in (more, is, inl none)
  ]

  next_of : (done more : List (List ℕ)) (line : List ℕ) (later : List (List ℕ)) (answered : ℕ) → lines old.facts taken ≡ answers_to old.facts done ++ answers_to (after_lines old.facts done) more
      → answered ≡ length (answers_to old.facts done) → more ≡ line ∷ later → slice_get (lines old.facts taken) answered ≡ Some (answer_to (after_lines old.facts done) line)
  unfolding answers_to
  next_of done more line later answered all count same =
      ap (λ texts. slice_get texts answered) (all ∙ ap (λ m. answers_to old.facts done ++ answers_to (after_lines old.facts done) m) same)
      ∙ ap (slice_get (answers_to old.facts done ++ answer_to (after_lines old.facts done) line ∷ answers_to (after_line (after_lines old.facts done) line) later)) count
      ∙ slice_get-front (answers_to old.facts done) (answers_to (after_line (after_lines old.facts done) line) later) (answer_to (after_lines old.facts done) line)

  pub writes_first : (at_end : Type 0) (written now_written : Option (List ℕ)) (why : Cause) (answered : ℕ) → IsHalted shown old new taken at_end written now_written why answered → WritesFirst old.facts taken answered written now_written
  unfolding lines
  writes_first at_end written now_written why answered it =
      let S = old.facts in
      let (more, is, part) = are_first at_end written now_written why answered it in
      let all : lines S taken ≡ answers_to S it.done ++ answers_to (after_lines S it.done) more = ap (answers_to S) is ∙ answers_to-append S it.done more in
      let count : answered ≡ length (answers_to S it.done) = it.count ∙ sym (answers_to-length S it.done) in
      record {
        within = omega (arith, count, ap length all, length-append (answers_to S it.done) (answers_to (after_lines S it.done) more));
        part = it.part;
        text = subst (λ texts. Appends written now_written (with_line_feeds texts ++ it.part))
            (sym (ap (take answered) all ∙ take_at (answers_to S it.done) (answers_to (after_lines S it.done) more) answered (sym count))) it.text;
        next = elim part [
          | inl none ↦ inl none
          | inr (line, later, rest, same, text, some) ↦ inr (answer_to (after_lines S it.done) line, rest, next_of it.done more line later answered all count same, text, some)
        ];
      }
