-- The first bytes of a text as a number.
use Rattle.std.specs.Prelude.{ℕ, suc, zero, ◌+◌, ◌*◌, ◌^◌, List, [], ◌∷◌}

-- the first n bytes of a text as one big-endian number; a shorter text is padded with zeros
abbrev pub first_bytes : ℕ → List ℕ → ℕ
first_bytes zero text = 0
first_bytes (suc n) [] = 0
first_bytes (suc n) (byte ∷ rest) = byte * 256 ^ n + first_bytes n rest
