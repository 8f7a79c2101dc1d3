-- Whether a list is empty, by its length.
use Rattle.std.proofs.Common.{◌≡◌, Bool, true, false, List, [], ◌∷◌, length, IsTrue, refl, sym, arith}
use Rattle.std.specs.Prelude.{◌↔◌, nat_eq}
use Rattle.std.proofs.lemmas.Bool.{true≢false}

pub by_length : {X : Type 0} (xs : List X) (b : Bool) → (IsTrue b ↔ (xs ≡ [])) → b ≡ nat_eq (length xs) 0
by_length [] true same = refl
by_length [] false same = absurd (true≢false (sym (same.1 refl)))
by_length (x ∷ xs) true same = let none = same.0 refl in cc
by_length (x ∷ xs) false same = grind arith
