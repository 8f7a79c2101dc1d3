-- What holds of the lists of chunks that a set has.
use Rattle.std.specs.Prelude.{◌≡◌, ◌<◌, ◌≤◌, List}
use Rattle.std.specs.List.{All}
use Rattle.std.specs.Vec.{vec_len, vec_capacity}
use Rattle.std.specs.declared.vec.Vec.{Vec}

module _ {K Z : Type 0} where
  -- each chunk has an entry, and memory for 128 entries and no more of them
  abbrev pub AreChunks : List (Vec K Z) → Type 0
  AreChunks chunks = All (λ (chunk : Vec K Z). (0 < vec_len chunk) × (vec_len chunk ≤ 128) × (128 ≤ vec_capacity chunk)) chunks

  -- each spare chunk is empty, and has memory for 128 entries
  abbrev pub AreSpare : List (Vec K Z) → Type 0
  AreSpare spare = All (λ (chunk : Vec K Z). (vec_len chunk ≡ 0) × (128 ≤ vec_capacity chunk)) spare
