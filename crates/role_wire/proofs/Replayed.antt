-- The lines that an office answered, as functions of its state.
use Rattle.std.proofs.Common.{◌≡◌, inl, inr, ℕ, List, [], ◌∷◌, ◌++◌, length, false, Option, Ok, append_assoc, refl, sym, ap, subst, ◌∙◌}
use Rattle.std.proofs.lemmas.List.{append-nil}
use Rattle.std.specs.Io.KnownBytes.{Appends}
use Rattle.sqlite.specs.Held.{Held}
use Rattle.sqlite.specs.State.{State}
use Rattle.admin_mgr.specs.OfficeRun.{Event}
use Rattle.admin_mgr.specs.RbacState.{RbacState}
use Rattle.role_json.specs.Request.{request}
use Rattle.role_json.specs.RequestContent.{RequestContent}
use Rattle.role_tables.specs.Office.{OfficeModel}
use Rattle.role_tables.specs.Runs.{IsInRun}
use Rattle.role_wire.specs.Continuation.{GoesOnBySome, StaysDurable, ReachesState, StoreFails}
use Rattle.role_wire.specs.Events.{AddsFailed, AddsLines, AddsLinesThen, AddsReading, AddsUndone}
use Rattle.role_wire.specs.Lines.{asking, line_feed, split_lines, with_line_feeds}
use Rattle.role_wire.specs.LineAnswer.{AnswersLine, FailsLine}
use Rattle.role_wire.specs.Outcome.{answer_to, after_line, answers_to, output_for, lines, after_lines, asking_lines, state_after}
use Rattle.role_wire.specs.OfficeRequest.{AsksAccepted, AsksImport}
use Rattle.role_wire.specs.Replay.{AreAnswered, IsReplayed, IsStopped, LeavesLine}
use Rattle.role_wire.specs.OfficeReplay.{IsAnswered, LeavesNext, IsHalted}
use Rattle.role_wire.specs.declared.lines.Cause.{Cause}
use Rattle.role_wire.specs.declared.lines.Cause.TheVariants.{Read, Write, Line, Store, Closed, Memory}
use Rattle.role_wire.proofs.FirstLines.{fitting-all, answers_to-length}
use Rattle.role_wire.proofs.Judged.{line_reaches}
use Rattle.role_wire.proofs.Performed.{stays}

-- one more line
pub after_lines-more : (S : RbacState) (done : List (List ℕ)) (line : List ℕ) → after_lines S (done ++ line ∷ []) ≡ after_line (after_lines S done) line
unfolding after_lines
after_lines-more S [] line = refl
after_lines-more S (first ∷ done) line = after_lines-more (after_line S first) done line

-- ---- events

-- lines add the events of the first of them, and then those of the others
adds_then : (S : RbacState) (done lines : List (List ℕ)) (first last : List Event) → AddsLines S done first → AddsLines (after_lines S done) lines last → AddsLines S (done ++ lines) (first ++ last)
unfolding AddsLines after_lines
adds_then S [] lines first last none later = subst (λ f. AddsLines S lines (f ++ last)) (sym none) later
adds_then S (line ∷ done) lines first last (one, rest, is, reading, more) later =
    (one, rest ++ last, ap (λ l. l ++ last) is ∙ append_assoc one rest last, reading, adds_then (after_line S line) done lines rest last more later)

-- the events of one line
adds_one : (S : RbacState) (line : List ℕ) (more : List Event) → AddsReading S (request line) more → AddsLines S (line ∷ []) more
unfolding AddsLines
adds_one S line more reading = (more, [], sym (append-nil more), reading, refl)

module _ {S : Type 0} (shown : Held S → State) where
  -- an office after such events and then after others, which together are such
  module _ (a b c : OfficeModel S) (First Last Both : List Event → Type 0) (join : (first last : List Event) → First first → Last last → Both (first ++ last)) where
    pub runs_then : GoesOnBySome shown a First b → GoesOnBySome shown b Last c → GoesOnBySome shown a Both c
    runs_then (first, one, leads) (last, two, goes_on) = (
      first ++ last,
      join first last one two,
      λ start events run. subst (λ all. IsInRun shown start all c) (append_assoc events first last) (goes_on start (events ++ first) (leads start events run)),
    )

    keeps_then : StaysDurable shown a First b → StaysDurable shown b Last c → StaysDurable shown a Both c
    keeps_then first last = record {
      clean = λ clean. first.clean (last.clean clean);
      runs = runs_then first.runs last.runs;
      durable = λ clean stands. last.durable clean (first.durable (last.clean clean) stands);
    }

    -- an office reaches a state, and then another
    pub reaches_then : (T U : RbacState) → ReachesState shown a First T b → ReachesState shown b Last U c → ReachesState shown a Both U c
    reaches_then T U first last = record {
      state = last.state;
      is_closed = last.is_closed ∙ first.is_closed;
      keeps = keeps_then first.keeps last.keeps;
    }

    -- an office reaches a state, and then the store fails
    pub breaks_then : (T U : RbacState) → ReachesState shown a First T b → StoreFails shown b Last T U c → StoreFails shown a Both T U c
    breaks_then T U first broke = record {
      is_closed = broke.is_closed;
      state = broke.state;
      clean = λ clean. first.keeps.clean (broke.clean clean);
      runs = runs_then first.keeps.runs broke.runs;
      held = λ clean stands. broke.held clean (first.keeps.durable (broke.clean clean) stands);
      left = λ clean stands. broke.left clean (first.keeps.durable (broke.clean clean) stands);
    }

  -- lines that were answered
  pub answered : (old new : OfficeModel S) (lines texts : List (List ℕ)) → AreAnswered (AnswersLine shown) old lines texts new
      → (texts ≡ answers_to old.facts lines) × ReachesState shown old (AddsLines old.facts lines) (after_lines old.facts lines) new
  unfolding AreAnswered answers_to after_lines AddsLines
  answered old new [] [] same = (refl, subst (ReachesState shown old (AddsLines old.facts []) old.facts) same (stays shown old (AddsLines old.facts []) refl))
  answered old new [] (text ∷ texts) none = absurd none
  answered old new (line ∷ lines) [] none = absurd none
  answered old new (line ∷ lines) (text ∷ texts) (between, is, later) =
      let (rest, reaches) = answered between new lines texts later in
      let to : between.facts ≡ after_line old.facts line = is.reaches.state in (
        ap (λ t. t ∷ texts) is.text_is ∙ ap (λ ts. answer_to old.facts line ∷ ts) (rest ∙ ap (λ s. answers_to s lines) to),
        reaches_then old between new (AddsReading old.facts (request line)) (AddsLines (after_line old.facts line) lines) (AddsLines old.facts (line ∷ lines))
            (λ first later one more. (first, later, refl, one, more))
            (after_line old.facts line) (after_lines (after_line old.facts line) lines) is.reaches
            (subst (λ s. ReachesState shown between (AddsLines s lines) (after_lines s lines) new) to reaches),
      )

  -- a replay that reached the end of its input
  pub replayed : (old new : OfficeModel S) (input : List ℕ) (written now_written : Option (List ℕ)) (count : ℕ) → IsReplayed (AnswersLine shown) old new input written now_written count
      → IsAnswered old.facts input written now_written count × ReachesState shown old (AddsLines old.facts (asking_lines input)) (after_lines old.facts (asking_lines input)) new
  unfolding output_for lines
  replayed old new input written now_written count done =
      let (texts, reaches) = answered old new (asking_lines input) done.texts done.are_answered in
      let all : done.texts ≡ lines old.facts input = texts ∙ ap (λ fit. answers_to old.facts (asking fit)) (sym (fitting-all (split_lines input) done.lines_fit)) in (
        record {
          lines_fit = done.lines_fit;
          text = subst (λ t. Appends written now_written (with_line_feeds t)) all done.text;
          count = done.count ∙ ap length all;
        },
        reaches,
      )

  -- ---- a replay that stopped

  module _ (old between new : OfficeModel S) (done : List (List ℕ)) (first : ReachesState shown old (AddsLines old.facts done) (after_lines old.facts done) between) (works : old.is_closed ≡ false) (line part : List ℕ) where
    abbrev T : RbacState
    T = after_lines old.facts done

    -- the state after the line is that after the lines that are done and the line
    one_more : after_line between.facts line ≡ after_lines old.facts (done ++ line ∷ [])
    one_more = ap (λ s. after_line s line) first.state ∙ sym (after_lines-more old.facts done line)

    -- from the state after the lines that are done
    further : ReachesState shown between (AddsReading between.facts (request line)) (after_line between.facts line) new
        → ReachesState shown old (AddsLines old.facts (done ++ line ∷ [])) (after_lines old.facts (done ++ line ∷ [])) new
    further later = subst (λ U. ReachesState shown old (AddsLines old.facts (done ++ line ∷ [])) U new) one_more
        (reaches_then old between new (AddsLines old.facts done) (AddsReading T (request line)) (AddsLines old.facts (done ++ line ∷ []))
        (λ before last one reading. adds_then old.facts done (line ∷ []) before last one (adds_one T line last reading))
        T (after_line between.facts line) first (subst (λ s. ReachesState shown between (AddsReading s (request line)) (after_line between.facts line) new) first.state later))

    kept : ReachesState shown between (AddsUndone between.facts (λ asked. request line ≡ Ok asked)) between.facts new
        → ReachesState shown old (AddsLinesThen old.facts done (AddsUndone T (λ asked. request line ≡ Ok asked))) T new
    kept later =
        reaches_then old between new (AddsLines old.facts done) (AddsUndone T (λ asked. request line ≡ Ok asked)) (AddsLinesThen old.facts done (AddsUndone T (λ asked. request line ≡ Ok asked)))
        (λ before last one none. (before, last, refl, one, none))
        T T first (subst (λ s. ReachesState shown between (AddsUndone s (λ asked. request line ≡ Ok asked)) s new) first.state later)

    -- the store failed in what the line asks for
    abbrev Fails : List Event → Type 0
    Fails last = (asked : RequestContent) × (request line ≡ Ok asked) × AddsFailed asked last

    further_broken : (asked : RequestContent) → request line ≡ Ok asked → StoreFails shown between (AddsFailed asked) between.facts (after_line between.facts line) new
        → StoreFails shown old (AddsLinesThen old.facts done Fails) T (after_lines old.facts (done ++ line ∷ [])) new
    further_broken asked read broke = subst (λ U. StoreFails shown old (AddsLinesThen old.facts done Fails) T U new) (sym (after_lines-more old.facts done line))
        (breaks_then old between new (AddsLines old.facts done) (AddsFailed asked) (AddsLinesThen old.facts done Fails)
        (λ before last one fails. (before, last, refl, one, (asked, read, fails)))
        T (after_line T line) first (subst (λ s. StoreFails shown between (AddsFailed asked) s (after_line s line) new) first.state broke))

    -- the state after the line is that after what it asks for
    leads : (asked : RequestContent) → request line ≡ Ok asked → state_after between.facts asked ≡ after_line between.facts line
    unfolding after_line
    leads asked read = rw read refl

    next_left : (cause : Cause) → LeavesLine (AnswersLine shown) (FailsLine shown) cause between line new part → LeavesNext shown cause old done line part new
    next_left Write (text, is, rest, whole, some) = (
      further is.reaches,
      (rest, ap (λ t. t ++ line_feed ∷ []) (sym (is.text_is ∙ ap (λ s. answer_to s line) first.state)) ∙ whole, some),
    )
    next_left Store ((closed, inl (shut, same)), none) = absurd (let no = sym shut ∙ (first.is_closed ∙ works) in cc)
    next_left Store ((closed, inr (asked, read, accepted, broke)), none) = (
      subst (λ s. AsksAccepted s line) first.state (asked, read, accepted),
      further_broken asked read (subst (λ U. StoreFails shown between (AddsFailed asked) between.facts U new) (leads asked read) broke),
      none,
    )
    next_left Memory (inl reaches, none) = (inl (kept reaches), none)
    next_left Memory (inr (asked, read, imports, reaches), none) =
        (inr (subst (λ s. AsksImport s line) first.state (asked, read, imports), further (line_reaches shown between new between.facts line asked read reaches)), none)
    next_left Read left = absurd left
    next_left (Line number) left = absurd left
    next_left Closed left = absurd left

  pub halted : (old new : OfficeModel S) (taken : List ℕ) (at_end : Type 0) (written now_written : Option (List ℕ)) (cause : Cause) (count : ℕ) → old.is_closed ≡ false
      → IsStopped (AnswersLine shown) (FailsLine shown) old new taken at_end written now_written cause count → IsHalted shown old new taken at_end written now_written cause count
  halted old new taken at_end written now_written cause count works stopped =
      let (texts, reaches) = answered old stopped.between stopped.done stopped.texts stopped.are_answered in
      record {
        done = stopped.done;
        part = stopped.part;
        text = subst (λ t. Appends written now_written (with_line_feeds t ++ stopped.part)) texts stopped.text;
        count = stopped.count ∙ ap length texts ∙ answers_to-length old.facts stopped.done;
        left = elim stopped.left [
          | inl (line, next, left) ↦ inl (line, next, next_left old stopped.between new stopped.done reaches works line stopped.part cause left)
          | inr (off, same, none) ↦ inr (off, subst (λ o. ReachesState shown old (AddsLines old.facts stopped.done) (after_lines old.facts stopped.done) o) (sym same) reaches, none)
        ];
      }
