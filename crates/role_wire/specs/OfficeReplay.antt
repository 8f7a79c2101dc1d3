-- What a replay over an office writes, and what it leaves.
use Rattle.std.specs.Prelude.{◌≡◌, ◌⊎◌, ℕ, ◌≤◌, List, [], ◌∷◌, ◌++◌, length, take, slice_get, Option, Some, Ok}
use Rattle.std.specs.Io.KnownBytes.{Appends}
use Rattle.sqlite.specs.Held.{Held}
use Rattle.sqlite.specs.State.{State}
use Rattle.admin_mgr.specs.RbacState.{RbacState}
use Rattle.role_json.specs.Request.{request}
use Rattle.role_json.specs.RequestContent.{RequestContent}
use Rattle.role_tables.specs.Office.{OfficeModel}
use Rattle.role_wire.specs.Continuation.{StoreFails, ReachesState}
use Rattle.role_wire.specs.Events.{AddsFailed, AddsLines, AddsLinesThen, AddsUndone}
use Rattle.role_wire.specs.Lines.{line_feed, split_lines, with_line_feeds, AllFit}
use Rattle.role_wire.specs.Outcome.{answer_to, answers_to, lines, output_for, after_lines}
use Rattle.role_wire.specs.OfficeRequest.{AsksAccepted, AsksImport}
use Rattle.role_wire.specs.Replay.{IsNext, LeavesOff}
use Rattle.role_wire.specs.declared.lines.Cause.{Cause}
use Rattle.role_wire.specs.declared.lines.Cause.TheVariants.{Write, Store, Memory}

-- a whole input was answered from this state on: each line that asks, in order
pub record IsAnswered (S : RbacState) (input : List ℕ) (written now_written : Option (List ℕ)) (answered : ℕ) : Type 0 where
  pub lines_fit : AllFit (split_lines input)
  pub text : Appends written now_written (output_for S input)
  pub count : answered ≡ length (lines S input)

-- The first `answered` answers to the lines of these bytes were written, and then at most a part of the next.
pub record WritesFirst (S : RbacState) (bytes : List ℕ) (answered : ℕ) (written now_written : Option (List ℕ)) : Type 0 where
  pub within : answered ≤ length (lines S bytes)
  pub part : List ℕ
  pub text : Appends written now_written (with_line_feeds (take answered (lines S bytes)) ++ part)
  pub next : (part ≡ []) ⊎ ((answer rest : List ℕ) × (slice_get (lines S bytes) answered ≡ Some answer) × (answer ++ line_feed ∷ [] ≡ part ++ rest) × (1 ≤ length rest))

module _ {S : Type 0} (shown : Held S → State) where
  -- A stop at the line after those that are done: this part of its answer was written. The store fails only for a command that
  -- is accepted in the state after those lines. If an allocation failed, nothing of the line was done, unless it asks for an
  -- import that is accepted.
  abbrev pub LeavesNext : Cause → OfficeModel S → List (List ℕ) → List ℕ → List ℕ → OfficeModel S → Type 0
  LeavesNext Write old done line part new = ReachesState shown old (AddsLines old.facts (done ++ line ∷ [])) (after_lines old.facts (done ++ line ∷ [])) new
      × ((rest : List ℕ) × (answer_to (after_lines old.facts done) line ++ line_feed ∷ [] ≡ part ++ rest) × (1 ≤ length rest))
  LeavesNext Store old done line part new = AsksAccepted (after_lines old.facts done) line
      × StoreFails shown old (AddsLinesThen old.facts done (λ last. (asked : RequestContent) × (request line ≡ Ok asked) × AddsFailed asked last))
      (after_lines old.facts done) (after_lines old.facts (done ++ line ∷ [])) new × (part ≡ [])
  LeavesNext Memory old done line part new =
      (ReachesState shown old (AddsLinesThen old.facts done (AddsUndone (after_lines old.facts done) (λ asked. request line ≡ Ok asked))) (after_lines old.facts done) new
      ⊎ (AsksImport (after_lines old.facts done) line
      × ReachesState shown old (AddsLines old.facts (done ++ line ∷ [])) (after_lines old.facts (done ++ line ∷ [])) new)) × (part ≡ [])
  LeavesNext _ old done line part new = ⊥

  -- Of the bytes that were read, the first lines that ask were done and their answers written. Then the replay stopped at the
  -- next line, or before it had another line to answer.
  pub record IsHalted (old new : OfficeModel S) (taken : List ℕ) (at_end : Type 0) (written now_written : Option (List ℕ)) (cause : Cause) (answered : ℕ) : Type 0 where
    pub done : List (List ℕ)
    pub part : List ℕ
    pub text : Appends written now_written (with_line_feeds (answers_to old.facts done) ++ part)
    pub count : answered ≡ length done
    pub left : ((line : List ℕ) × IsNext done line taken at_end × LeavesNext cause old done line part new)
        ⊎ (LeavesOff cause done taken × ReachesState shown old (AddsLines old.facts done) (after_lines old.facts done) new × (part ≡ []))
