-- The lines of an input.
use Rattle.std.specs.Prelude.{◌≡◌, ◌≤◌, ℕ, Bool, not, ◌||◌, ◌==◌, nat_lt, List, [], ◌∷◌, ◌++◌, length, All, if◌then◌else◌}
use Rattle.std.specs.List.{list_all, filter}
pub use Rattle.role_functions.specs.Function.{longest_line}

-- no line is longer than a request may be, without its LF
abbrev pub AllFit : List (List ℕ) → Type 0
AllFit lines = All (λ line. length line ≤ longest_line) lines

-- the line is not longer than that
abbrev pub fits : List ℕ → Bool
fits line = not (nat_lt longest_line (length line))

-- the lines before the first that is longer
unfoldable pub fitting : List (List ℕ) → List (List ℕ)
fitting [] = []
fitting (line ∷ rest) = if fits line then line ∷ fitting rest else []

-- the byte that ends a line
abbrev pub line_feed : ℕ
line_feed = 10

-- the byte at the front of the first line, or as a line of its own if there is none
abbrev before_lines : ℕ → List (List ℕ) → List (List ℕ)
before_lines byte [] = (byte ∷ []) ∷ []
before_lines byte (line ∷ lines) = (byte ∷ line) ∷ lines

-- the lines of an input: each ends before LF or at the end, and an input that ends with LF has no further line
abbrev pub split_lines : List ℕ → List (List ℕ)
split_lines [] = []
split_lines (byte ∷ bytes) = if byte == line_feed then [] ∷ split_lines bytes else before_lines byte (split_lines bytes)

-- the byte at the front of the first line, if there is one
abbrev before_ended : ℕ → List (List ℕ) → List (List ℕ)
before_ended byte [] = []
before_ended byte (line ∷ lines) = (byte ∷ line) ∷ lines

-- the lines that LF ends: all lines but a last one without LF
abbrev pub ended_lines : List ℕ → List (List ℕ)
ended_lines [] = []
ended_lines (byte ∷ bytes) = if byte == line_feed then [] ∷ ended_lines bytes else before_ended byte (ended_lines bytes)

-- the byte at the front of the open line, if no line ends after the byte
abbrev before_open : ℕ → List (List ℕ) → List ℕ → List ℕ
before_open byte [] open_bytes = byte ∷ open_bytes
before_open byte (line ∷ lines) open_bytes = open_bytes

-- the bytes after the last LF, of a line that has not ended yet
abbrev pub open_line : List ℕ → List ℕ
open_line [] = []
open_line (byte ∷ bytes) = if byte == line_feed then open_line bytes else before_open byte (ended_lines bytes) (open_line bytes)

-- an input in two pieces has the lines that end in the first piece, and then those of its open line followed by the second piece
abbrev pub SplitsByPieces : Type 0
SplitsByPieces = (front rest : List ℕ) → split_lines (front ++ rest) ≡ ended_lines front ++ split_lines (open_line front ++ rest)

-- a line of spaces, tabs and CR alone
abbrev pub is_blank : List ℕ → Bool
is_blank line = list_all (λ byte. byte == 32 || (byte == 9 || byte == 13)) line

-- the lines that ask for an answer: those that are not blank
unfoldable pub asking : List (List ℕ) → List (List ℕ)
asking lines = filter (λ line. not (is_blank line)) lines

-- the texts, each followed by LF
unfoldable pub with_line_feeds : List (List ℕ) → List ℕ
with_line_feeds [] = []
with_line_feeds (text ∷ texts) = (text ++ line_feed ∷ []) ++ with_line_feeds texts
