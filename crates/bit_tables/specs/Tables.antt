-- Rows of bits by name, and by two names.
use Rattle.std.specs.Prelude.{◌≡◌, ℕ, Bool, false, ◌&&◌, ◌∷◌, ◌++◌, not, nat_eq, nat_le, nat_lt, length, List, Option, Some, None}
use Rattle.std.specs.Borrow.{Bor}
use Rattle.std.specs.HashMap.{get_by_text, hasher_of}
use Rattle.std.specs.List.{list_any}
use Rattle.bit_rows.specs.declared.row.BitRow.{BitRow}
use Rattle.bit_rows.specs.declared.row.TheConstants.{WIDTH}
use Rattle.bit_rows.specs.Rows.{has}
use Rattle.rbac_sets.specs.Sets.{Bytes}
use Rattle.bit_tables.specs.declared.numbers.Numbers.{Numbers}
use Rattle.bit_tables.specs.declared.numbers.Numbers.TheVariants.{Few, Many}
use Rattle.bit_tables.specs.declared.seed.Seed.{Seed}
use Rattle.bit_tables.specs.declared.table.BitTable.{BitTable}
use Rattle.bit_tables.specs.declared.pair_table.PairTable.{PairTable}
use Rattle.bit_tables.specs.declared.pair_table.TheConstants.{LONGEST_NAME}

-- whether the place has the number, which is below the width of a row
unfoldable pub is_at : ℕ → ℕ → Bool
is_at place number = nat_lt number WIDTH && nat_eq place number

-- whether one of the places has the number
abbrev pub is_one_of : List ℕ → ℕ → Bool
is_one_of places number = list_any (λ place. is_at place number) places

-- whether the set has the number
abbrev pub holds : Numbers → ℕ → Bool
holds (Few places) number = is_one_of places number
holds (Many row) number = has row.value number

-- whether the row has the number; no row has none
abbrev pub is_in : Option BitRow → ℕ → Bool
is_in None number = false
is_in (Some row) number = has row number

-- whether the row behind the reference has the number; no row has none
abbrev pub is_in_row : Option (Bor BitRow) → ℕ → Bool
is_in_row None number = false
is_in_row (Some row) number = has row.now number

-- whether the set has the number, and the row hasn't
abbrev pub holds_without : Numbers → Option (Bor BitRow) → ℕ → Bool
holds_without numbers row number = holds numbers number && not (is_in_row row number)

-- whether the set has the number; no set has none
abbrev pub is_held : Option Numbers → ℕ → Bool
is_held None number = false
is_held (Some numbers) number = holds numbers number

-- whether the row at the name has the number
abbrev pub has_at : BitTable → Bytes → ℕ → Bool
has_at table name number = is_held (get_by_text table.rows name) number

-- a name without numbers has no row
abbrev pub HasNoEmptyRow : BitTable → Bytes → Type 0
HasNoEmptyRow table name = ((n : ℕ) → has_at table name n ≡ false) → get_by_text table.rows name ≡ None

-- the secret by which the table finds names
abbrev pub seed_of : BitTable → Seed
seed_of table = hasher_of table.rows

-- whether both texts are no longer than a name can be
abbrev pub are_names : Bytes → Bytes → Bool
are_names first second = nat_le (length first) LONGEST_NAME && nat_le (length second) LONGEST_NAME

-- the two names in one text, with the length of the first before them
abbrev pub joined : Bytes → Bytes → Bytes
joined first second = length first ∷ first ++ second

-- whether the row at the two names has the number; texts that are longer than names have no row
abbrev pub has_pair : PairTable → Bytes → Bytes → ℕ → Bool
has_pair pairs first second number = are_names first second && has_at pairs.rows (joined first second) number
