-- Lists of chunks.
use Rattle.std.specs.Prelude.{List}
use Rattle.std.specs.List.{flat_map}
use Rattle.std.specs.declared.vec.Vec.{Vec}

module _ {K Z : Type 0} where
  -- the entries of all chunks, one after the other
  abbrev pub entries_of : List (Vec K Z) → List K
  entries_of chunks = flat_map (λ (chunk : Vec K Z). chunk.items) chunks
