-- Sets of numbers as bits.
use Rattle.std.specs.Prelude.{◌≡◌, ◌<◌, ◌/◌, ◌%◌, ℕ, List, Bool, false, nat_eq, slice_index, IsTrue}
use Rattle.std.specs.Int.{bit_at}
use Rattle.bit_rows.specs.declared.row.BitRow.{BitRow}

-- both words have some bit
abbrev pub HaveCommon : ℕ → ℕ → Type 0
HaveCommon a b = (i : ℕ) × (i < 64) × (bit_at a i ≡ 1) × (bit_at b i ≡ 1)

-- whether the word has the bit
abbrev pub word_has : ℕ → ℕ → Bool
word_has word i = nat_eq (bit_at word i) 1

-- whether words of 64 bits each have the bit of this number
unfoldable pub has_bit : List ℕ → ℕ → Bool
has_bit words n = nat_eq (bit_at (slice_index words (n / 64)) (n % 64)) 1

-- whether the number is in the row
abbrev pub has : BitRow → ℕ → Bool
has row n = has_bit row.words.items n

-- some number is in both rows
abbrev pub HaveNumber : BitRow → BitRow → Type 0
HaveNumber a b = (n : ℕ) × IsTrue (has a n) × IsTrue (has b n)

-- some number is in both rows, and not in the third
abbrev pub HaveNumberWithout : BitRow → BitRow → BitRow → Type 0
HaveNumberWithout a b without = (n : ℕ) × IsTrue (has a n) × IsTrue (has b n) × (has without n ≡ false)
