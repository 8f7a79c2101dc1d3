-- What a replay of an input writes and leaves, whether it ends or stops.
--     answers old line text new       old answers the line with the text, and is new afterwards
--     fails old line unanswered new   old doesn't answer the line, for this reason, and is new afterwards
use Rattle.std.specs.Prelude.{◌≡◌, ◌⊎◌, ℕ, ◌+◌, ◌-◌, ◌^◌, ◌<◌, ◌≤◌, false, List, [], ◌∷◌, ◌++◌, length, Option}
use Rattle.std.specs.Io.KnownBytes.{Appends}
use Rattle.role_wire.specs.declared.lines.Cause.{Cause}
use Rattle.role_wire.specs.declared.lines.Cause.TheVariants.{Read, Write, Line, Store, Memory}
use Rattle.role_wire.specs.declared.lines.Unanswered.{Unanswered}
use Rattle.role_wire.specs.declared.lines.Unanswered.TheVariants as unanswered
use Rattle.role_wire.specs.Lines.{longest_line, line_feed, split_lines, ended_lines, is_blank, asking, with_line_feeds, AllFit}

-- the maximum number of reads of one replay
abbrev pub most_reads : ℕ
most_reads = 1000000000

-- at least that many reads were made between the two counts, or the count is at its greatest value
abbrev pub IsAtBound : ℕ → ℕ → Type 0
IsAtBound before now = (before + most_reads ≤ now) ⊎ (2 ^ 64 - 1 ≤ now)

module _ {S : Type 0} (answers : S → List ℕ → List ℕ → S → Type 0) where
  -- the lines are answered with the texts, in order, which leads from old to new
  unfoldable pub AreAnswered : S → List (List ℕ) → List (List ℕ) → S → Type 0
  AreAnswered old [] [] new = old ≡ new
  AreAnswered old [] (text ∷ texts) new = ⊥
  AreAnswered old (line ∷ lines) [] new = ⊥
  AreAnswered old (line ∷ lines) (text ∷ texts) new = (between : S) × answers old line text between × AreAnswered between lines texts new

  -- the whole input was answered: each line that asks, in order, each answer with LF
  pub record IsReplayed (old new : S) (input : List ℕ) (written now_written : Option (List ℕ)) (answered : ℕ) : Type 0 where
    pub lines_fit : AllFit (split_lines input)
    pub texts : List (List ℕ)
    pub are_answered : AreAnswered old (asking (split_lines input)) texts new
    pub text : Appends written now_written (with_line_feeds texts)
    pub count : answered ≡ length texts

-- the line is the next that asks after those that are done, and ended in the bytes that were read, by LF or by the end of the
-- input; neither it nor a line before it is too long
abbrev pub IsNext : List (List ℕ) → List ℕ → List ℕ → Type 0 → Type 0
IsNext done line taken at_end = (before after : List (List ℕ))
    × ((ended_lines taken ≡ before ++ line ∷ after) ⊎ (at_end × (split_lines taken ≡ before ++ line ∷ after)))
    × (asking before ≡ done) × (is_blank line ≡ false) × AllFit before × (length line ≤ longest_line)

-- A stop that wasn't at an answer: no more could be read, an allocation failed, or the line of this number is the first that is
-- too long. The lines that are done are those that ask, of the lines before the stop, none of which is too long. If no more
-- could be read, no line of what was read is too long, the one that had not ended included.
abbrev pub LeavesOff : Cause → List (List ℕ) → List ℕ → Type 0
LeavesOff Read done taken = (asking (ended_lines taken) ≡ done) × AllFit (split_lines taken)
LeavesOff (Line number) done taken = (before after : List (List ℕ)) × (line : List ℕ) × (split_lines taken ≡ before ++ line ∷ after)
    × (asking before ≡ done) × AllFit before × (longest_line < length line) × (number ≡ length before + 1)
LeavesOff Memory done taken = (before after : List (List ℕ)) × (ended_lines taken ≡ before ++ after) × (asking before ≡ done) × AllFit before
LeavesOff _ done taken = ⊥

module _ {S : Type 0} (answers : S → List ℕ → List ℕ → S → Type 0) (fails : S → List ℕ → Unanswered → S → Type 0) where
  -- a stop at this line, whose answer was not written whole: `part` of it was
  abbrev pub LeavesLine : Cause → S → List ℕ → S → List ℕ → Type 0
  LeavesLine Write old line new part = (text : List ℕ) × answers old line text new × (rest : List ℕ) × (text ++ line_feed ∷ [] ≡ part ++ rest) × (1 ≤ length rest)
  LeavesLine Store old line new part = fails old line unanswered.Store new × (part ≡ [])
  LeavesLine Memory old line new part = fails old line unanswered.Memory new × (part ≡ [])
  LeavesLine _ old line new part = ⊥

  -- of the bytes that were read, the first lines that ask were answered, and then this cause stopped the replay
  pub record IsStopped (old new : S) (taken : List ℕ) (at_end : Type 0) (written now_written : Option (List ℕ)) (cause : Cause) (answered : ℕ) : Type 0 where
    pub done : List (List ℕ)
    pub texts : List (List ℕ)
    pub between : S
    pub part : List ℕ
    pub are_answered : AreAnswered answers old done texts between
    pub text : Appends written now_written (with_line_feeds texts ++ part)
    pub count : answered ≡ length texts
    pub left : ((line : List ℕ) × IsNext done line taken at_end × LeavesLine cause between line new part) ⊎ (LeavesOff cause done taken × (new ≡ between) × (part ≡ []))
