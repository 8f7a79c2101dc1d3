-- What a name is.
use Rattle.std.specs.Prelude.{ℕ, Bool, not, ◌&&◌, ◌==◌, ◌*◌, ◌/◌, ◌%◌, nat_le, List, length}
use Rattle.std.specs.List.{list_all}
use Rattle.std.specs.Str.{is_utf8}
pub use Rattle.short_text.specs.Front.{first_bytes}

-- a byte that is not an ASCII control character
abbrev pub is_printable : ℕ → Bool
is_printable byte = nat_le 32 byte && not (byte == 127)

-- 1 to 64 bytes
abbrev pub has_name_length : List ℕ → Bool
has_name_length text = nat_le 1 (length text) && nat_le (length text) 64

-- whether a text is a valid name: UTF-8 of 1 to 64 bytes, none of them an ASCII control character
abbrev pub is_name : List ℕ → Bool
is_name text = has_name_length text && (list_all is_printable text && is_utf8 text)

-- a number below 4,096, computed from the first eight bytes of a text: these as a number, times 2 to the 64th divided by
-- the golden ratio; of the lowest 64 bits of this product the highest 12
unfoldable pub fingerprint : List ℕ → ℕ
fingerprint text = first_bytes 8 text * 11400714819323198485 % 18446744073709551616 / 4503599627370496
