-- A pass over chunks.
use Rattle.std.specs.Prelude.{◌≡◌, ℕ, List, ◌∷◌, ◌++◌, take, drop}
use Rattle.std.specs.List.{AllByRecursion}
use Rattle.std.specs.declared.alloc.Global.{Global}
use Rattle.std.specs.declared.vec.Vec.{Vec}
use Rattle.std.specs.declared.cmp.Ordering.{Ordering}
use Rattle.std.specs.declared.cmp.Ordering.TheVariants.{Less}
use Rattle.chunked_sets.specs.Chunks.{entries_of}
use Rattle.chunked_sets.specs.declared.pass.Pass.{Pass}

-- all in their order: those that were passed, the current one, and those ahead
abbrev pub in_order : {X : Type 0} → ℕ → List X → X → List X
in_order ahead ring current = drop ahead ring ++ current ∷ take ahead ring

-- the chunks of a pass in their order, and their entries
abbrev pub chunks_in : {K : Type 0} → Pass K → List (Vec K Global)
chunks_in pass = in_order pass.ahead pass.ring.items pass.current

abbrev pub entries_in : {K : Type 0} → Pass K → List K
entries_in pass = entries_of (chunks_in pass)

-- the entries of the chunks that were passed are less than x
abbrev pub HasPassed : {K Z : Type 0} → (K → K → Ordering) → K → ℕ → List (Vec K Z) → Type 0
HasPassed cmp x ahead ring = AllByRecursion (λ y. cmp y x ≡ Less) (entries_of (drop ahead ring))
