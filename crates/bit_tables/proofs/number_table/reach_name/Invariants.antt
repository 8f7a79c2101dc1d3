use Rattle.std.proofs.Common.{◌≡◌, ℕ, ◌+◌, ◌-◌, Some, vec_len}
use Rattle.std.specs.List.{slice_get}
use Rattle.rbac_sets.specs.Sets.{Bytes}
use Rattle.bit_tables.proofs.number_table.reach_name.Given as goal

abbrev pub invariant-loop-names : goal.invariant-loop-names
invariant-loop-names l = (n : ℕ) (name : Bytes) → slice_get l.names.items n ≡ Some (Some name) → slice_get l.initial.names.items n ≡ Some (Some name)

abbrev pub decreases-loop-names : goal.decreases-loop-names
decreases-loop-names l = l.number + 1 - vec_len l.names
