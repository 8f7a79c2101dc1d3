-- The head of a request within its limits.
use Rattle.std.specs.Prelude.{◌≤◌, ◌++◌, ℕ, List, length, Option}
use Rattle.std.specs.Io.KnownBytes.{Consumes}
use Rattle.httparse.specs.Grammar.{RequestHead, ReadsRequest, print_request}

-- the most bytes of a head
abbrev pub longest_head : ℕ
longest_head = 8192

-- the most fields of a head
abbrev pub most_fields : ℕ
most_fields = 64

-- the bytes are this head, which is within the limits, and then the rest
abbrev pub HasHead : List ℕ → RequestHead → List ℕ → Type 0
HasHead bytes head rest = ReadsRequest bytes head rest × (length (print_request head) ≤ longest_head) × (length head.fields ≤ most_fields)

-- whatever follows these bytes, if it all begins with a head, the head includes all of them
abbrev pub IsInHead : List ℕ → Type 0
IsInHead taken = (later : List ℕ) (head : RequestHead) (rest : List ℕ) → ReadsRequest (taken ++ later) head rest → length taken ≤ length (print_request head)

-- these bytes were read from a source that had the remaining bytes `old` before and has `new` after: none past a head, and no
-- more than a head may have
abbrev pub ConsumesHead : Option (List ℕ) → Option (List ℕ) → List ℕ → Type 0
ConsumesHead old new taken = Consumes old new taken × IsInHead taken × (length taken ≤ longest_head)
