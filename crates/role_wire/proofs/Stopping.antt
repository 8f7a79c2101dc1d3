-- How a replay ends or stops.
use Rattle.std.proofs.Common.{◌≡◌, ◌⊎◌, inl, inr, ℕ, ◌+◌, ◌<◌, ◌≤◌, zero, suc, false, List, [], ◌∷◌, ◌++◌, length, length-append, Option, refl, sym, ap, subst, ◌∙◌, append_assoc, arith}
use Rattle.std.proofs.lemmas.List.{append-nil}
use Rattle.std.specs.List.{AllByRecursion, All}
use Rattle.std.specs.Io.KnownBytes.{Appends}
use Rattle.role_wire.specs.declared.lines.Cause.{Cause}
use Rattle.role_wire.specs.declared.lines.Cause.TheVariants.{Read, Write, Line, Store, Closed, Memory}
use Rattle.role_wire.specs.declared.lines.Unanswered.{Unanswered}
use Rattle.role_wire.specs.Lines.{longest_line, split_lines, ended_lines, is_blank, asking, AllFit}
use Rattle.role_wire.specs.Replay.{AreAnswered, IsReplayed, IsNext, LeavesOff, IsStopped}
use Rattle.role_wire.specs.private.ReadProgress.{ReadPosition, HasNoLineFeed, IsOpenLine, IsRead, EndsLine, StopsAtLine, EndsHere, StopsReading, Halts}
use Rattle.rbac_sets.proofs.Known.{Appends-none, Appends-more}
use Rattle.rbac_sets.proofs.Lists.{all_join}
use Rattle.role_wire.proofs.Splitting.{ended_lines-ended, split_lines-last, ended_lines-last, split_lines-first, HasNoLineFeed-append}
use Rattle.role_wire.proofs.Answering.{asking-append, with_line_feeds-append, AreAnswered-append}
use Rattle.role_wire.proofs.ReadSoFar.{read_none, read_more}

all_at : {X : Type 0} (P : X → Type 0) (xs : List X) → AllByRecursion P xs → All P xs
all_at P [] all k d within = absurd (omega arith)
all_at P (x ∷ xs) all zero d within = all.0
all_at P (x ∷ xs) all (suc k) d within = all_at P xs all.1 k d (omega arith)

-- bytes without LF at the front of the input are at the front of the first line, if there are any
split-front : (front rest : List ℕ) → HasNoLineFeed front → 1 ≤ length front → (end : List ℕ) × ((after : List (List ℕ)) × (split_lines (front ++ rest) ≡ (front ++ end) ∷ after))
split-front [] rest plain some = absurd (omega arith)
split-front (x ∷ front) rest plain some = split_lines-first x front rest plain

-- of an input without LF, the line that asks for an answer is the input itself, if it asks at all
split-open : (line : List ℕ) → HasNoLineFeed line → asking (split_lines line) ≡ asking (line ∷ [])
unfolding asking
split-open [] plain = refl
split-open (x ∷ line) plain = ap asking (split_lines-last x line plain)

-- if it asks for an answer, it is the only line
split-one : (line : List ℕ) → HasNoLineFeed line → is_blank line ≡ false → split_lines line ≡ line ∷ []
split-one [] plain asks = absurd (let no : is_blank [] ≡ false = asks in cc)
split-one (x ∷ line) plain asks = split_lines-last x line plain

split-open-fits : (line : List ℕ) → IsOpenLine line → AllByRecursion (λ l. length l ≤ longest_line) (split_lines line)
split-open-fits [] is = tt
split-open-fits (x ∷ line) is = subst (AllByRecursion (λ l. length l ≤ longest_line)) (sym (split_lines-last x line is.plain)) (is.fits, tt)

module _ {S : Type 0} (answers : S → List ℕ → List ℕ → S → Type 0) where
  -- at the end of the input
  pub finished : (start now : ReadPosition S) (new : S) (taken : List ℕ) (written : Option (List ℕ)) (answered : ℕ) → start.line ≡ [] → start.answered ≡ 0
      → IsRead answers start now taken → EndsLine answers now.state now.line new now.written written now.answered answered
      → IsReplayed answers start.state new taken start.written written answered
  finished start now new taken written answered empty none read ends =
      let splits : split_lines taken ≡ read.lines ++ split_lines now.line =
      ap split_lines (sym (append-nil taken) ∙ ap (λ l. l ++ (taken ++ [])) (sym empty)) ∙ read.splits [] ∙ ap (λ l. read.lines ++ split_lines l) (append-nil now.line) in
      let asks : asking (split_lines taken) ≡ asking read.lines ++ asking (now.line ∷ []) =
      ap asking splits ∙ asking-append read.lines (split_lines now.line) ∙ ap (λ l. asking read.lines ++ l) (split-open now.line read.open_line.plain) in
      record {
        lines_fit = all_at (λ l. length l ≤ longest_line) (split_lines taken) (subst (AllByRecursion (λ l. length l ≤ longest_line)) (sym splits)
            (all_join (λ l. length l ≤ longest_line) read.lines (split_lines now.line) read.lines_fit (split-open-fits now.line read.open_line)));
        texts = read.texts ++ ends.texts;
        are_answered = subst (λ l. AreAnswered answers start.state l (read.texts ++ ends.texts) new) (sym asks)
            (AreAnswered-append answers start.state now.state new _ _ _ _ read.are_answered ends.are_answered);
        text = subst (Appends start.written written) (sym (with_line_feeds-append read.texts ends.texts)) (Appends-more start.written now.written written _ _ read.text ends.text);
        count = omega (arith, none, read.count, ends.count, length-append read.texts ends.texts);
      }

module _ {S : Type 0} (answers : S → List ℕ → List ℕ → S → Type 0) (fails : S → List ℕ → Unanswered → S → Type 0) where
  -- bytes were read, and then the reading stopped
  pub halts_behind : (start between : ReadPosition S) (xs ys : List ℕ) (at_end : Type 0) (cause : Cause) (new : S) (written : Option (List ℕ)) (answered : ℕ)
      → IsRead answers start between xs → Halts answers fails between ys at_end cause new written answered → Halts answers fails start (xs ++ ys) at_end cause new written answered
  halts_behind start between xs ys at_end cause new written answered read halts = record {
    front = xs ++ halts.front;
    rest = halts.rest;
    taken_is = ap (λ l. xs ++ l) halts.taken_is ∙ sym (append_assoc xs halts.front halts.rest);
    between = halts.between;
    read = read_more answers start between halts.between xs halts.front read halts.read;
    stays = halts.stays;
    left = halts.left;
  }

  module _ (start : ReadPosition S) (taken : List ℕ) (at_end : Type 0) (empty : start.line ≡ []) (cause : Cause) (new : S) (written : Option (List ℕ)) (answered : ℕ)
      (halts : Halts answers fails start taken at_end cause new written answered) where
    abbrev lines : List (List ℕ)
    lines = halts.read.lines

    abbrev line : List ℕ
    line = halts.between.line

    splits : split_lines taken ≡ lines ++ split_lines (line ++ halts.rest)
    splits = ap split_lines (halts.taken_is ∙ ap (λ l. l ++ (halts.front ++ halts.rest)) (sym empty)) ∙ halts.read.splits halts.rest

    ended : ended_lines taken ≡ lines ++ ended_lines (line ++ halts.rest)
    ended = ap ended_lines (halts.taken_is ∙ ap (λ l. l ++ (halts.front ++ halts.rest)) (sym empty)) ∙ halts.read.ended halts.rest

    lines_fit : AllFit lines
    lines_fit = all_at (λ l. length l ≤ longest_line) lines halts.read.lines_fit

    -- if all bytes were read
    splits_here : halts.rest ≡ [] → split_lines taken ≡ lines ++ split_lines line
    splits_here none = splits ∙ ap (λ l. lines ++ split_lines l) (ap (λ l. line ++ l) none ∙ append-nil line)

    ends_here : halts.rest ≡ [] → ended_lines taken ≡ lines
    ends_here none = ended ∙ ap (λ l. lines ++ ended_lines l) (ap (λ l. line ++ l) none ∙ append-nil line) ∙ ap (λ l. lines ++ l) (ended_lines-last line halts.read.open_line.plain) ∙ append-nil lines

    next_line : EndsHere halts.rest at_end → is_blank line ≡ false → IsNext (asking lines) line taken at_end
    next_line (inl here) asks = (
      lines,
      ended_lines here.0,
      inl (ended ∙ ap (λ l. lines ++ ended_lines (line ++ l)) here.1 ∙ ap (λ l. lines ++ l) (ended_lines-ended line here.0 halts.read.open_line.plain)),
      refl,
      asks,
      lines_fit,
      halts.read.open_line.fits,
    )
    next_line (inr here) asks = (
      lines,
      [],
      inr (here.0, splits_here here.1 ∙ ap (λ l. lines ++ l) (split-one line halts.read.open_line.plain asks)),
      refl,
      asks,
      lines_fit,
      halts.read.open_line.fits,
    )

    stops_off : start.number ≡ 0 → (c : Cause) → StopsReading c halts.between halts.rest → LeavesOff c (asking lines) taken
    stops_off first Read none = (
      ap asking (ends_here none),
      all_at (λ l. length l ≤ longest_line) (split_lines taken) (subst (AllByRecursion (λ l. length l ≤ longest_line)) (sym (splits_here none))
          (all_join (λ l. length l ≤ longest_line) lines (split_lines line) halts.read.lines_fit (split-open-fits line halts.read.open_line))),
    )
    stops_off first Write none = none
    stops_off first Store none = none
    stops_off first Closed none = none
    stops_off first Memory none = (lines, ended_lines (line ++ halts.rest), ended, refl, lines_fit)
    stops_off first (Line number) (more, after, rest, plain, long, is) =
        let front = line ++ more in
        let here = split-front front after (HasNoLineFeed-append line more halts.read.open_line.plain plain) (omega (arith, long)) in (
          lines,
          here.1.0,
          front ++ here.0,
          splits ∙ ap (λ l. lines ++ split_lines l) (ap (λ l. line ++ l) rest ∙ sym (append_assoc line more after)) ∙ ap (λ l. lines ++ l) here.1.1,
          refl,
          lines_fit,
          omega (arith, long, length-append front here.0),
          omega (arith, is, first, halts.read.number),
        )

    pub stopped : start.number ≡ 0 → start.answered ≡ 0 → IsStopped answers fails start.state new taken at_end start.written written cause answered
    stopped number count = elim halts.left [
      | inl (here, fails_line) ↦ record {
        done = asking lines;
        texts = halts.read.texts;
        between = halts.between.state;
        part = fails_line.part;
        are_answered = halts.read.are_answered;
        text = Appends-more start.written halts.between.written written _ _ halts.read.text fails_line.text;
        count = omega (arith, halts.stays, halts.read.count, count);
        left = inl (line, next_line here fails_line.asks, fails_line.leaves);
      }
      | inr (why, same, text) ↦ record {
        done = asking lines;
        texts = halts.read.texts;
        between = halts.between.state;
        part = [];
        are_answered = halts.read.are_answered;
        text = Appends-more start.written halts.between.written written _ _ halts.read.text text;
        count = omega (arith, halts.stays, halts.read.count, count);
        left = inr (stops_off number cause why, same, refl);
      }
    ]

module _ {S : Type 0} (answers : S → List ℕ → List ℕ → S → Type 0) (fails : S → List ℕ → Unanswered → S → Type 0) where
  -- bytes without LF did not fit into the open line
  pub halts_open : (place : ReadPosition S) (bytes after : List ℕ) (at_end : Type 0) (cause : Cause) (answered : ℕ) → IsOpenLine place.line → HasNoLineFeed bytes → answered ≡ place.answered
      → (cause ≡ Memory) ⊎ ((cause ≡ Line (place.number + 1)) × (longest_line < length (place.line ++ bytes)))
      → Halts answers fails place (bytes ++ after) at_end cause place.state place.written answered
  halts_open place bytes after at_end cause answered is plain stays why = record {
    front = [];
    rest = bytes ++ after;
    taken_is = refl;
    between = place;
    read = read_none answers place is;
    stays = stays;
    left = inr (
      elim why [
        | inl memory ↦ subst (λ c. StopsReading c place (bytes ++ after)) (sym memory) refl
        | inr long ↦ subst (λ c. StopsReading c place (bytes ++ after)) (sym long.0) (bytes, after, refl, plain, long.1, refl)
      ],
      refl,
      Appends-none place.written,
    );
  }

  -- the line that ended has no whole answer
  pub halts_line : (start between : ReadPosition S) (front rest : List ℕ) (at_end : Type 0) (cause : Cause) (new : S) (written : Option (List ℕ)) (answered : ℕ)
      → IsRead answers start between front → EndsHere rest at_end → StopsAtLine answers fails cause between.state between.line new between.written written → answered ≡ between.answered
      → Halts answers fails start (front ++ rest) at_end cause new written answered
  halts_line start between front rest at_end cause new written answered read here fails_line stays = record {
    front = front;
    rest = rest;
    taken_is = refl;
    between = between;
    read = read;
    stays = stays;
    left = inl (here, fails_line);
  }

  -- all these bytes were read, and no more
  pub halts_read : (start between : ReadPosition S) (taken : List ℕ) (at_end : Type 0) → IsRead answers start between taken → Halts answers fails start taken at_end Read between.state between.written between.answered
  halts_read start between taken at_end read = record {
    front = taken;
    rest = [];
    taken_is = sym (append-nil taken);
    between = between;
    read = read;
    stays = refl;
    left = inr (refl, refl, Appends-none between.written);
  }

  -- the line that the end of the input ended has no whole answer
  pub halts_last : (start between : ReadPosition S) (taken : List ℕ) (at_end : Type 0) (cause : Cause) (new : S) (written : Option (List ℕ)) (answered : ℕ) → IsRead answers start between taken → at_end
      → StopsAtLine answers fails cause between.state between.line new between.written written → answered ≡ between.answered → Halts answers fails start taken at_end cause new written answered
  halts_last start between taken at_end cause new written answered read end fails_line stays = record {
    front = taken;
    rest = [];
    taken_is = sym (append-nil taken);
    between = between;
    read = read;
    stays = stays;
    left = inl (inr (end, refl), fails_line);
  }

  -- a stop within the input doesn't depend on whether the input is at its end
  pub halts_within : (start : ReadPosition S) (taken : List ℕ) (at_end : Type 0) (cause : Cause) (new : S) (written : Option (List ℕ)) (answered : ℕ)
      → Halts answers fails start taken ⊥ cause new written answered → Halts answers fails start taken at_end cause new written answered
  halts_within start taken at_end cause new written answered halts = record {
    front = halts.front;
    rest = halts.rest;
    taken_is = halts.taken_is;
    between = halts.between;
    read = halts.read;
    stays = halts.stays;
    left = elim halts.left [
      | inl (here, fails_line) ↦ inl (
        elim here [
          | inl lf ↦ inl lf
          | inr none ↦ absurd none.0
        ],
        fails_line,
      )
      | inr off ↦ inr off
    ];
  }
