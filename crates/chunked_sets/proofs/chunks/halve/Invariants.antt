use Rattle.std.proofs.Common.{◌≡◌, ◌+◌, ◌≤◌, ◌++◌, reverse, vec_len, vec_capacity}
use Rattle.chunked_sets.proofs.chunks.halve.Given as goal

abbrev pub invariant-loop-lower : goal.invariant-loop-lower
invariant-loop-lower g l = record {
  same : l.lower.items ++ reverse l.upper.items ≡ l.initial.lower.items;
  total : vec_len l.lower + vec_len l.upper ≡ 128;
  half : 64 ≤ vec_len l.lower;
  memory : 128 ≤ vec_capacity l.upper;
  capacity : vec_capacity l.lower ≡ vec_capacity l.initial.lower;
}

abbrev pub decreases-loop-lower : goal.decreases-loop-lower
decreases-loop-lower g l = vec_len l.lower
