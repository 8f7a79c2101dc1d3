-- The records of a CSV text, and which of them a reader has read.
use Rattle.std.specs.Prelude.{List}
use Rattle.csv.specs.Reading.{default_config, records, strip_bom}
use Rattle.rbac_sets.specs.Sets.{Bytes}

-- a record, as its fields
abbrev pub Fields : Type 0
Fields = List Bytes

-- the records of a text as `csv` reads it by default, without the byte order mark if it begins with one
abbrev pub records_of : Bytes → List Fields
records_of text = records default_config (strip_bom text)
