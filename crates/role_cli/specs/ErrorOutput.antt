-- What the program writes to standard error.
use Rattle.std.specs.Prelude.{◌≡◌, ◌⊎◌, ◌++◌, ℕ, List, Option, codes}
use Rattle.std.specs.Io.KnownBytes.{Appends}
use Rattle.rbac_sets.specs.declared.refusal.Refusal.{Refusal}
use Rattle.rbac_sets.specs.declared.refusal.Refusal.TheVariants.{Memory}
use Rattle.role_json.specs.Answer.{refusal_text}
use Rattle.role_wire.specs.Stop.{stop_text}
use Rattle.role_wire.specs.declared.lines.Stop.{Stop}
use Rattle.role_cli.specs.Work.{WritesPart}
use Rattle.role_cli.specs.declared.failure.Failure.{Failure}
use Rattle.role_cli.specs.declared.failure.Failure.TheVariants.{Refused, Stopped, NotListening, NotAccepting, Closed}

-- the line that reports a refusal
abbrev pub refusal_line : Refusal → List ℕ
refusal_line refusal = codes "rbac: " ++ (refusal_text refusal ++ codes "\n")

-- the line that reports that an allocation failed
abbrev pub no_memory_line : List ℕ
no_memory_line = refusal_line Memory

-- the line that reports that `replay` has both FILE and `--memory`, or neither
abbrev pub both_or_neither_line : List ℕ
both_or_neither_line = codes "rbac: give FILE or --memory\n"

-- the line that reports that a replay stopped
abbrev pub stop_line : Stop → List ℕ
stop_line stop = codes "rbac: " ++ (stop_text stop ++ codes "\n")

-- The line reports the failure, or that there was no memory for the line of a refusal.
abbrev pub IsLineOf : Failure → List ℕ → Type 0
IsLineOf (Refused refusal) line = (line ≡ refusal_line refusal) ⊎ (line ≡ no_memory_line)
IsLineOf (Stopped stop) line = line ≡ stop_line stop
IsLineOf NotListening line = line ≡ codes "rbac: cannot listen\n"
IsLineOf NotAccepting line = line ≡ codes "rbac: cannot accept\n"
IsLineOf Closed line = line ≡ codes "rbac: closed\n"

-- the line was written: whole, unless a write failed or accepted no byte
abbrev pub Says : List ℕ → Option (List ℕ) → Option (List ℕ) → Type 0 → Type 0
Says line written now_written has_failed = Appends written now_written line ⊎ (WritesPart line written now_written × has_failed)

-- such a line was written
abbrev pub SaysSome : (List ℕ → Type 0) → Option (List ℕ) → Option (List ℕ) → Type 0 → Type 0
SaysSome Is written now_written has_failed = (line : List ℕ) × Is line × Says line written now_written has_failed
