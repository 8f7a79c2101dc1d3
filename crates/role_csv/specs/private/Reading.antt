-- What a reader of a text in memory has read, and which bytes a writer holds.
use Rattle.std.specs.Prelude.{◌≡◌, ◌++◌, ◌∷◌, [], List, Some, true, ℕ, Option}
use Rattle.std.specs.Borrow.{Bor}
use Rattle.csv.specs.Reading.{Reached, Ready, default_config, is_flexible, reader_config, reader_state, reader_trim, source_of, strip_bom}
use Rattle.csv.specs.declared.parser.State.TheVariants as state
use Rattle.csv.specs.declared.reader.Reader.{Reader}
use Rattle.csv.specs.declared.reader.Trim.TheVariants as trim
use Rattle.rbac_sets.specs.Sets.{Bytes}
use Rattle.role_csv.specs.Records.{Fields, records_of}
use Rattle.std.specs.declared.vec.Vec.{Vec}
use Rattle.std.specs.declared.alloc.Global.{Global}
use Rattle.csv.specs.Writing.{text_written}
use Rattle.csv.specs.declared.writer.Writer.{Writer}

-- a reader of a text in memory
abbrev pub TextReader : Type 0
TextReader = Reader (Bor Bytes)

-- the reader accepts records with any number of fields, and has read these, the first of the text, and no byte after them
pub record HasRead (text : Bytes) (rows : List Fields) (reader : TextReader) : Type 0 where
  pub untrimmed : reader_trim reader ≡ trim.None
  pub flexible : is_flexible reader ≡ true
  pub ready : Ready reader
  pub config : reader_config reader ≡ default_config
  pub left : Bytes
  pub source : source_of (λ (slice : Bor Bytes). Some slice.now) reader ≡ Some left
  pub reached : Reached default_config state.StartRecord (strip_bom text) rows (reader_state reader) left

-- the reader reads one more record, with these fields
abbrev pub ReadsOneMore : TextReader → Fields → TextReader → Type 0
ReadsOneMore old fields new = (text : Bytes) (rows : List Fields) → HasRead text rows old → HasRead text (rows ++ fields ∷ []) new

-- the reader has read all records of its text
abbrev pub HasReadAll : TextReader → Type 0
HasReadAll reader = (text : Bytes) (rows : List Fields) → HasRead text rows reader → records_of text ≡ rows

-- the bytes that a writer holds
abbrev pub writer_bytes : Writer (Vec ℕ Global) → Option Bytes
writer_bytes writer = text_written (λ (text : Vec ℕ Global). Some text.items) writer
