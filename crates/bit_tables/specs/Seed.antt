-- The secret by which names are hashed.
use Rattle.std.specs.Prelude.{ℕ, ◌++◌, fold}
use Rattle.core.specs.Hash.{u64}
use Rattle.core.specs.Hash.DefaultHasher as sip
use Rattle.bit_tables.specs.declared.seed.Seed.{Seed}

-- SipHash that has begun with these two numbers
abbrev pub seed_with : (first second : ℕ) → Seed
seed_with first second = record { start = fold sip.write sip.initial (u64 first ++ u64 second) }
