-- How far an input was read, between two bytes. The definitions in this file are used only in private contracts.
use Rattle.std.specs.Prelude.{◌≡◌, ◌⊎◌, ℕ, ◌+◌, ◌<◌, ◌≤◌, ◌==◌, false, List, [], ◌∷◌, ◌++◌, length, Option}
use Rattle.std.specs.List.{AllByRecursion}
use Rattle.std.specs.Io.KnownBytes.{Appends}
use Rattle.role_wire.specs.declared.lines.Cause.{Cause}
use Rattle.role_wire.specs.declared.lines.Cause.TheVariants.{Read, Line, Memory}
use Rattle.role_wire.specs.declared.lines.Progress.{Progress}
use Rattle.role_wire.specs.declared.lines.Unanswered.{Unanswered}
use Rattle.role_wire.specs.Lines.{longest_line, line_feed, split_lines, ended_lines, is_blank, asking, with_line_feeds}
use Rattle.role_wire.specs.Replay.{AreAnswered, LeavesLine}

-- the state of what answers lines, the line that has not ended yet, how many lines ended, how many were answered, and what was
-- written
pub record ReadPosition (S : Type 0) : Type 0 where
  pub state : S
  pub line : List ℕ
  pub number : ℕ
  pub answered : ℕ
  pub written : Option (List ℕ)

abbrev pub read_position_of : {S : Type 0} → S → Progress → Option (List ℕ) → ReadPosition S
read_position_of state progress written = record { state = state; line = progress.line.items; number = progress.number; answered = progress.answered; written = written }

-- no byte ends a line
abbrev pub HasNoLineFeed : List ℕ → Type 0
HasNoLineFeed line = AllByRecursion (λ byte. (byte == line_feed) ≡ false) line

-- a line that has not ended yet
pub record IsOpenLine (line : List ℕ) : Type 0 where
  pub fits : length line ≤ longest_line
  pub plain : HasNoLineFeed line

module _ {S : Type 0} (answers : S → List ℕ → List ℕ → S → Type 0) where
  -- these bytes were read, these lines ended in them, and those that ask were answered
  pub record IsRead (start now : ReadPosition S) (taken : List ℕ) : Type 0 where
    pub lines : List (List ℕ)
    pub texts : List (List ℕ)
    pub splits : (rest : List ℕ) → split_lines (start.line ++ (taken ++ rest)) ≡ lines ++ split_lines (now.line ++ rest)
    pub ended : (rest : List ℕ) → ended_lines (start.line ++ (taken ++ rest)) ≡ lines ++ ended_lines (now.line ++ rest)
    pub lines_fit : AllByRecursion (λ line. length line ≤ longest_line) lines
    pub open_line : IsOpenLine now.line
    pub are_answered : AreAnswered answers start.state (asking lines) texts now.state
    pub text : Appends start.written now.written (with_line_feeds texts)
    pub count : now.answered ≡ start.answered + length texts
    pub number : now.number ≡ start.number + length lines

  -- the line that ended was answered, if it asks for an answer
  pub record EndsLine (old : S) (line : List ℕ) (new : S) (written now_written : Option (List ℕ)) (answered now_answered : ℕ) : Type 0 where
    pub texts : List (List ℕ)
    pub are_answered : AreAnswered answers old (asking (line ∷ [])) texts new
    pub text : Appends written now_written (with_line_feeds texts)
    pub count : now_answered ≡ answered + length texts

-- why reading stopped within an open line, before these bytes
abbrev pub StopsReading : {S : Type 0} → Cause → ReadPosition S → List ℕ → Type 0
StopsReading Read place rest = rest ≡ []
StopsReading (Line number) place rest = (more after : List ℕ) × (rest ≡ more ++ after) × HasNoLineFeed more × (longest_line < length (place.line ++ more)) × (number ≡ place.number + 1)
StopsReading Memory place rest = (rest ≡ rest)
StopsReading _ place rest = ⊥

-- the open line ends before these bytes: they begin with LF, or there are none and the input is at its end
abbrev pub EndsHere : List ℕ → Type 0 → Type 0
EndsHere rest at_end = ((after : List ℕ) × (rest ≡ line_feed ∷ after)) ⊎ (at_end × (rest ≡ []))

module _ {S : Type 0} (answers : S → List ℕ → List ℕ → S → Type 0) (fails : S → List ℕ → Unanswered → S → Type 0) where
  -- the line that ended has no whole answer
  pub record StopsAtLine (cause : Cause) (old : S) (line : List ℕ) (new : S) (written now_written : Option (List ℕ)) : Type 0 where
    pub asks : is_blank line ≡ false
    pub part : List ℕ
    pub text : Appends written now_written part
    pub leaves : LeavesLine answers fails cause old line new part

  -- these bytes were read up to some place, and then this cause stopped the reading
  pub record Halts (start : ReadPosition S) (taken : List ℕ) (at_end : Type 0) (cause : Cause) (new : S) (now_written : Option (List ℕ)) (answered : ℕ) : Type 0 where
    pub front : List ℕ
    pub rest : List ℕ
    pub taken_is : taken ≡ front ++ rest
    pub between : ReadPosition S
    pub read : IsRead answers start between front
    pub stays : answered ≡ between.answered
    pub left : (EndsHere rest at_end × StopsAtLine cause between.state between.line new between.written now_written)
        ⊎ (StopsReading cause between rest × (new ≡ between.state) × Appends between.written now_written [])
