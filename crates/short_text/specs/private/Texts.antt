-- What is kept of a text beside its bytes.
use Rattle.std.specs.Prelude.{◌≡◌, ℕ, ◌≤◌, true, List, length}
use Rattle.std.specs.Str.{is_utf8}
use Rattle.short_text.specs.declared.short_text.Storage.{Storage}
use Rattle.short_text.specs.declared.short_text.Storage.TheVariants.{Inside, Middle, Long}
use Rattle.short_text.specs.Front.{first_bytes}
use Rattle.short_text.specs.Storages.{bytes_of}

-- the length of the text, as it is kept
abbrev pub len_of : Storage → ℕ
len_of (Inside len bytes) = len
len_of (Middle len front bytes) = len
len_of (Long len front bytes) = len

-- the number of the first eight bytes, as it is kept or read
abbrev pub front_of : Storage → ℕ
front_of (Inside len bytes) = first_bytes 8 bytes
front_of (Middle len front bytes) = front
front_of (Long len front bytes) = front

-- the bytes are a text of at most 64 bytes, and its length and the number of its first eight bytes are right
pub record IsText (storage : Storage) : Type 0 where
  pub len : length (bytes_of storage) ≡ len_of storage
  pub short : length (bytes_of storage) ≤ 64
  pub utf8 : is_utf8 (bytes_of storage) ≡ true
  pub front : front_of storage ≡ first_bytes 8 (bytes_of storage)
