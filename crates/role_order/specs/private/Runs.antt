-- The pairs that begin with one name.
use Rattle.std.specs.Prelude.{ℕ, List, filter}
use Rattle.rbac_sets.specs.Sets.{Bytes, Pair, Pairs, len, members, same_name, seconds}

-- the pairs that begin with a name, in byte order
abbrev pub run_of : Pairs → Bytes → List Pair
run_of pairs first = filter (λ (pair : Pair). same_name pair.0 first) (members pairs)

-- how many names a has a pair with
abbrev pub junior_count : Pairs → Bytes → ℕ
junior_count pairs a = len (seconds pairs a)
