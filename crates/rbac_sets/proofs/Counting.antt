-- How the counts of a stream grow.
use Rattle.std.proofs.Common.{inl, inr, ℕ, ◌+◌, ◌-◌, ◌^◌, ◌≤◌, ◌&&◌, true, false, nat_eq, nat_lt, Result, Ok, Err, arith, if◌then◌else◌}
use Rattle.std.proofs.lemmas.Bool.{cases_Bool, ltb-false}
use Rattle.rbac_sets.specs.Stream.{one_more, idle_after, HasRisen}

-- one more call raises the count, unless it has saturated
pub one_more-rises : (calls : ℕ) → HasRisen calls (one_more calls)
one_more-rises calls = elim (cases_Bool (nat_lt calls (2 ^ 64 - 1))) [
  | inl below ↦ rw below (inl (omega arith))
  | inr most ↦ rw most (inr (ltb-false calls (2 ^ 64 - 1) most))
]

pub one_more-most : (calls : ℕ) → one_more calls ≤ calls + 1
one_more-most calls = elim (cases_Bool (nat_lt calls (2 ^ 64 - 1))) [
  | inl below ↦ rw below (omega arith)
  | inr most ↦ rw most (omega arith)
]

pub one_more-grows : (calls : ℕ) → calls ≤ one_more calls
one_more-grows calls = elim (cases_Bool (nat_lt calls (2 ^ 64 - 1))) [
  | inl below ↦ rw below (omega arith)
  | inr most ↦ rw most (omega arith)
]

-- the count of idle writes never falls
pub idle_after-grows : {E : Type 0} (idle size : ℕ) (result : Result ℕ E) → idle ≤ idle_after idle size result
idle_after-grows idle size (Err e) = omega arith
idle_after-grows idle size (Ok count) = elim (nat_lt 0 size && nat_eq count 0) as (λ b. idle ≤ (if b then one_more idle else idle)) [
  | true ↦ one_more-grows idle
  | false ↦ omega arith
]

-- a count that rose from a later value rose from an earlier one too
pub risen_since : (first before now : ℕ) → first ≤ before → HasRisen before now → HasRisen first now
risen_since first before now le (inl less) = inl (omega arith)
risen_since first before now le (inr most) = inr most
