-- The place of an entry among chunks.
use Rattle.std.specs.Prelude.{◌≡◌, ℕ, suc, ◌<◌, Bool, false, List, [], ◌∷◌, length, take, drop}
use Rattle.std.specs.List.{AllByRecursion}
use Rattle.std.specs.declared.vec.Vec.{Vec}
use Rattle.std.specs.declared.cmp.Ordering.{Ordering}
use Rattle.std.specs.declared.cmp.Ordering.TheVariants.{Less, Greater}
use Rattle.chunked_sets.specs.Chunks.{entries_of}

-- whether the first item passes the test
abbrev pub first_passes : {K : Type 0} → (K → Bool) → List K → Bool
first_passes test [] = false
first_passes test (x ∷ xs) = test x

-- the entries before the chunk at a place are less than x, and those behind it are greater
pub record IsHome {K Z : Type 0} (cmp : K → K → Ordering) (x : K) (chunks : List (Vec K Z)) (at : ℕ) : Type 0 where
  pub within : at < length chunks
  pub below : AllByRecursion (λ y. cmp y x ≡ Less) (entries_of (take at chunks))
  pub above : AllByRecursion (λ y. cmp y x ≡ Greater) (entries_of (drop (suc at) chunks))
