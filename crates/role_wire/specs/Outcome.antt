-- The outcome of lines: what the office answers to each, and its state after it. That of one request or line is in `role_lines`.
use Rattle.std.specs.Prelude.{ℕ, List, [], ◌∷◌}
use Rattle.admin_mgr.specs.RbacState.{RbacState}
use Rattle.role_wire.specs.Lines.{split_lines, fitting, asking, with_line_feeds}
pub use Rattle.role_lines.specs.Outcome.{accepted_text, after_reading, outcome, outcome_text, unless}
unfoldable pub use Rattle.role_lines.specs.Outcome.{after_line, answer_to, outcome_of, state_after}

-- the answers to lines, each in the state after the lines before it, and the state after them all
unfoldable pub answers_to : RbacState → List (List ℕ) → List (List ℕ)
answers_to S [] = []
answers_to S (line ∷ lines) = answer_to S line ∷ answers_to (after_line S line) lines

unfoldable pub after_lines : RbacState → List (List ℕ) → RbacState
after_lines S [] = S
after_lines S (line ∷ lines) = after_lines (after_line S line) lines

-- the lines of an input that ask for an answer
abbrev pub asking_lines : List ℕ → List (List ℕ)
asking_lines input = asking (split_lines input)

-- the answers to the lines of these bytes: to each that asks, in order, up to the first line that is too long
unfoldable pub lines : RbacState → List ℕ → List (List ℕ)
lines S bytes = answers_to S (asking (fitting (split_lines bytes)))

-- the answers as they are written: each followed by LF
unfoldable pub output_for : RbacState → List ℕ → List ℕ
output_for S bytes = with_line_feeds (lines S bytes)
