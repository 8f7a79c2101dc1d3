-- Lists with a gap of entries that were removed.
use Rattle.std.specs.Prelude.{ℕ, List, ◌++◌, take, drop}

-- the items before the gap and after it
abbrev pub around : {K : Type 0} → ℕ → ℕ → List K → List K
around start end items = take start items ++ drop end items
