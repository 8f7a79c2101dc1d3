-- Where the gap in a sorted list lies.
use Rattle.std.specs.Prelude.{◌≡◌, ℕ, List, [], ◌∷◌, drop}
use Rattle.std.specs.List.{AllWithin}
use Rattle.std.specs.declared.cmp.Ordering.{Ordering}
use Rattle.std.specs.declared.cmp.Ordering.TheVariants.{Less, Equal}

-- the first item of the list ties with x
abbrev pub IsFirst : {K : Type 0} → (K → K → Ordering) → K → List K → Type 0
IsFirst cmp x [] = ⊥
IsFirst cmp x (y ∷ ys) = cmp y x ≡ Equal

-- the first item of the list, if there is one, isn't less than x
abbrev pub IsNotBelow : {K : Type 0} → (K → K → Ordering) → K → List K → Type 0
IsNotBelow cmp x [] = Unit {0}
IsNotBelow cmp x (y ∷ ys) = cmp y x ≡ Less → ⊥

-- all items before the gap are less than x, and the first after it, if there is one, isn't
abbrev pub IsPassed : {K : Type 0} → (K → K → Ordering) → K → ℕ → ℕ → List K → Type 0
IsPassed cmp x start end items = AllWithin (λ y. cmp y x ≡ Less) items 0 start × IsNotBelow cmp x (drop end items)
