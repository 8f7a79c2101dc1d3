-- What a change of chunks adds to their weight.
use Rattle.std.specs.Prelude.{ℕ, ◌+◌, ◌≤◌, max, List}
use Rattle.std.specs.declared.vec.Vec.{Vec}
use Rattle.chunked_sets.specs.private.Rooms.{weight_of}

-- at each width the chunks weigh at most `more` more than before. If there was none, the first one is not counted
abbrev pub GrowsBy : {K Z : Type 0} → ℕ → List (Vec K Z) → List (Vec K Z) → Type 0
GrowsBy more old new = (width : ℕ) → width ≤ 64 → weight_of width new ≤ max width (weight_of width old) + more
