-- Calls that commit nothing, one after the other.
use Rattle.std.proofs.Common.{IsTrue, inl, refl, arith}
use Rattle.sqlite.specs.State.{State, HasCleanDisk, IsUnchanged, KeepsCommit, Survives}
use Rattle.sqlite.specs.Tree.{Trees}
use Rattle.sqlite.proofs.InsideLemmas.{keeps_then}
use Rattle.sqlite.proofs.StateLemmas.{survives_then}

-- a call that does nothing
pub survives_itself : (s : State) (Commits : Trees → Type 0) → Survives s s Commits
survives_itself s Commits = record { clean = omega arith; shield = λ h. h; counts = omega arith; limit = refl; closes = λ _ h. inl h; crash = λ _ db h. inl h }

pub unchanged_itself : (s : State) → IsTrue s.is_open → IsUnchanged s s
unchanged_itself s is_open = (record { was_open = is_open; is_open = is_open; now_is = refl; committed_is = refl; mode = refl }, record { changes = refl; last_rowid = refl }, refl)

pub survives_none : (s : State) → Survives s s (λ _. ⊥)
survives_none s = survives_itself s (λ _. ⊥)

pub survives_both : (a b c : State) → Survives a b (λ _. ⊥) → Survives b c (λ _. ⊥) → Survives a c (λ _. ⊥)
survives_both a b c = survives_then a b c (λ _. ⊥) (λ _. ⊥) (λ _. ⊥) (λ _ db none. none) (λ _ db none. none)

-- two calls leave what was committed if each does
pub keeps_both : (a b c : State) → HasCleanDisk c → Survives b c (λ _. ⊥) → (HasCleanDisk b → KeepsCommit a b) → (HasCleanDisk c → KeepsCommit b c) → KeepsCommit a c
keeps_both a b c clean second one two = keeps_then a b c (one (omega (arith, clean, second.clean))) (two clean)
