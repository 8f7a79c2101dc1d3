-- Where the bytes of a text are.
use Rattle.std.specs.Prelude.{ℕ, List, take}
use Rattle.short_text.specs.declared.short_text.Storage.{Storage}
use Rattle.short_text.specs.declared.short_text.Storage.TheVariants.{Inside, Middle, Long}

-- the bytes of the text
abbrev pub bytes_of : Storage → List ℕ
bytes_of (Inside len bytes) = take len bytes
bytes_of (Middle len front bytes) = take len bytes.value
bytes_of (Long len front bytes) = take len bytes.value
