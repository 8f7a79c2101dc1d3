-- What the work of a subcommand reads and writes besides its office: the standard input, the output, CSV files and clients.
use Rattle.std.specs.Prelude.{◌≡◌, ◌⊎◌, ◌+◌, ℕ, List, IfSome, take}
use Rattle.rbac_sets.specs.Stream.{HasRisen}
use Rattle.role_csv.specs.Assignments.{assignments, most_bytes}
use Rattle.role_wire.specs.Replay.{IsAtBound}
use Rattle.role_cli.specs.ServedConnections.{Clients, Known}

-- the text of the CSV file at a path, if it is known
abbrev pub CsvTexts : Type 0
CsvTexts = List ℕ → Known

-- What is known of it at one moment: the bytes that the input has left, the number of its reads and of those that failed; the bytes
-- that were written to the output, the number of its writes that failed and of those that accepted no byte; the CSV files, and how
-- often one could not be opened or read; the clients. The counts saturate.
pub record Environment : Type 0 where
  pub remaining : Known
  pub reads : ℕ
  pub failed_reads : ℕ
  pub written : Known
  pub failed_writes : ℕ
  pub idle_writes : ℕ
  pub csv_at : CsvTexts
  pub failed_csv : ℕ
  pub clients : Clients

-- a call failed, or one that should move a byte moved none: one of the two counts of such calls rose
abbrev pub HasFailed : (failed now_failed idle now_idle : ℕ) → Type 0
HasFailed failed now_failed idle now_idle = HasRisen failed now_failed ⊎ HasRisen idle now_idle

-- a write of the output failed or accepted no byte
abbrev pub WriteFailed : Environment → Environment → Type 0
WriteFailed before now = HasFailed before.failed_writes now.failed_writes before.idle_writes now.idle_writes

-- a read of the input failed, or it was read as often as a replay may
abbrev pub ReadFailed : Environment → Environment → Type 0
ReadFailed before now = HasRisen before.failed_reads now.failed_reads ⊎ IsAtBound before.reads now.reads

-- these bytes were read of a CSV file: all, or one more than a text may have, which decide as all would (law `a_start_decides`)
abbrev pub IsReadOf : Known → List ℕ → Type 0
IsReadOf file bytes = IfSome file (λ text. bytes ≡ take (most_bytes + 1) text)

-- the bytes that are read of a text list the same assignments as the text
abbrev pub StartDecides : Type 0
StartDecides = (text : List ℕ) → assignments (take (most_bytes + 1) text) ≡ assignments text
