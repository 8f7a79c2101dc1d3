use Rattle.std.proofs.Common.{◌⊎◌, ℕ, List, ◌+◌, ◌-◌, ◌*◌, ◌^◌, ◌≤◌}
use Rattle.std.specs.Io.KnownBytes.{Consumes}
use Rattle.role_wire.specs.private.ReadProgress.{read_position_of, IsRead}
use Rattle.role_wire.proofs.lines.read_input.Given as goal

-- this many reads were made between the two counts, or the count has reached its greatest value
abbrev pub HasRead : ℕ → ℕ → ℕ → Type 0
HasRead turns before now = (now ≤ before + turns) × ((before + turns ≤ now) ⊎ (2 ^ 64 - 1 ≤ now))

-- these bytes of the input were read, and no count decreased
pub record ReadsInput (consumed read : List ℕ → Type 0) (turns number answered failed_writes failed_writes_now idle_writes idle_writes_now failed_reads failed_reads_now reads reads_now : ℕ) : Type 0 where
  pub taken : List ℕ
  pub is_consumed : consumed taken
  pub is_read : read taken
  pub number_within : number ≤ 8192 * turns
  pub answered_within : answered ≤ 8192 * turns
  pub writes : failed_writes ≤ failed_writes_now
  pub idle : idle_writes ≤ idle_writes_now
  pub failures : failed_reads ≤ failed_reads_now
  pub has_read : HasRead turns reads reads_now

abbrev pub invariant-loop-turn : goal.invariant-loop-turn
invariant-loop-turn g l = ReadsInput
    (λ taken. Consumes (g.R.Source.remaining l.initial.source) (g.R.Source.remaining l.source) taken)
    (λ taken. IsRead g.A.AnswerLines.answers (read_position_of l.initial.office l.initial.progress (g.W.Sink.written l.initial.sink)) (read_position_of l.office l.progress (g.W.Sink.written l.sink)) taken)
    l._turn l.progress.number l.progress.answered (g.W.Sink.failed l.initial.sink) (g.W.Sink.failed l.sink)
    (g.W.Sink.idle l.initial.sink) (g.W.Sink.idle l.sink) (g.R.Source.failed l.initial.source) (g.R.Source.failed l.source) (g.R.Source.reads l.initial.source) (g.R.Source.reads l.source)
