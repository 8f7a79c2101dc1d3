use Rattle.std.proofs.Common.{◌≡◌, ℕ, ◌+◌, ◌-◌, get_or, vec_len}
use Rattle.bit_tables.specs.declared.number_table.TheConstants.{NEVER}
use Rattle.bit_tables.proofs.number_table.reach_guess.Given as goal

abbrev pub invariant-loop-guesses : goal.invariant-loop-guesses
invariant-loop-guesses l = (n : ℕ) → get_or l.guesses.items n NEVER ≡ get_or l.initial.guesses.items n NEVER

abbrev pub decreases-loop-guesses : goal.decreases-loop-guesses
decreases-loop-guesses l = l.place + 1 - vec_len l.guesses
