use Rattle.std.proofs.Common.{◌≡◌, ℕ, List, ◌++◌, ◌+◌, ◌≤◌, length}
use Rattle.role_wire.specs.private.ReadProgress.{read_position_of, IsRead}
use Rattle.role_wire.proofs.lines.read_piece.Given as goal

-- the bytes before the rest were read
pub record ReadsPiece (read : List ℕ → Type 0) (piece rest : List ℕ) (number number_now answered answered_now failed failed_now idle idle_now : ℕ) : Type 0 where
  pub front : List ℕ
  pub piece_is : piece ≡ front ++ rest
  pub is_read : read front
  pub number_rises : number_now ≤ number + length front
  pub answered_rises : answered_now ≤ answered + length front
  pub failures : failed ≤ failed_now
  pub idle_rises : idle ≤ idle_now

abbrev pub invariant-loop-end : goal.invariant-loop-end
invariant-loop-end g l = ReadsPiece
    (λ front. IsRead g.A.AnswerLines.answers (read_position_of l.initial.office l.initial.progress (g.W.Sink.written l.initial.sink)) (read_position_of l.office l.progress (g.W.Sink.written l.sink)) front)
    l.piece l.rest l.initial.progress.number l.progress.number l.initial.progress.answered l.progress.answered (g.W.Sink.failed l.initial.sink) (g.W.Sink.failed l.sink)
    (g.W.Sink.idle l.initial.sink) (g.W.Sink.idle l.sink)

abbrev pub decreases-loop-end : goal.decreases-loop-end
decreases-loop-end g l = length l.rest
