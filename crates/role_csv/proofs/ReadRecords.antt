-- The records that a reader has read are the first of all records of its text.
use Rattle.std.proofs.Common.{◌≡◌, ◌≤◌, ◌<◌, ◌∙◌, ◌+◌, ◌-◌, ◌⊎◌, inl, inr, ℕ, zero, suc, List, [], ◌∷◌, ◌++◌, length, Option, Some, None, true, false, ap, sym, refl, arith}
use Rattle.std.specs.Borrow.{Bor}
use Rattle.std.proofs.lemmas.Bool.{cases_Bool}
use Rattle.std.proofs.lemmas.List.{append-nil}
use Rattle.csv.specs.Machine.{Read, ends_at_end, field_after, fields_after, is_end, next_record, step}
use Rattle.csv.specs.Reading.{Reached, ReadRecord, Ready, default_config, is_flexible, reader_state, reader_trim, records_from, strip_bom, took_first}
use Rattle.csv.specs.declared.parser.Config.{Config}
use Rattle.csv.specs.declared.parser.State.{State}
use Rattle.csv.specs.declared.parser.State.TheVariants as state
use Rattle.csv.specs.declared.reader.Trim.TheVariants as trim
use Rattle.csv.proofs.ReadFacts.{rows-end, rows-more}
use Rattle.rbac_sets.specs.Sets.{Bytes}
use Rattle.role_csv.specs.Records.{Fields, records_of}
use Rattle.role_csv.specs.private.Reading.{HasRead, TextReader}

-- reading a record consumes a byte, or the text is at its end
abbrev ConsumesByte : Bytes → Read → Type 0
ConsumesByte bytes read = (length read.2 < length bytes) ⊎ ((read.2 ≡ []) × (read.1 ≡ state.StartRecord))

next_record-takes : (cfg : Config) (s : State) (fields : Fields) (field bytes : Bytes) (read : Read)
    → next_record cfg s fields field bytes ≡ Some read → ConsumesByte bytes read
unfolding next_record
next_record-takes cfg s fields field [] read e =
    elim (cases_Bool (ends_at_end s)) [
      | inl ended ↦
          let same : (fields ++ (field ∷ []), state.StartRecord, []) ≡ read = let r = rw ended at e in cc in
          inr (ap (λ (q : Read). q.2) (sym same), ap (λ (q : Read). q.1) (sym same))
      | inr going ↦ let r = rw going at e in absurd (let no : ⊥ = cc in no)
    ]
next_record-takes cfg s fields field (byte ∷ rest) read e =
    elim (cases_Bool (is_end (step cfg s byte).1)) [
      | inl ended ↦
          let same : (fields_after (step cfg s byte).1 fields field, (step cfg s byte).0, rest) ≡ read = let r = rw ended at e in cc in
          inl (let left : read.2 ≡ rest = ap (λ (q : Read). q.2) (sym same) in rw left (omega arith))
      | inr going ↦
          elim (next_record-takes cfg (step cfg s byte).0 (fields_after (step cfg s byte).1 fields field) (field_after (step cfg s byte).1 byte field) rest read (rw going at e)) [
            | inl less ↦ inl (omega arith)
            | inr done ↦ inr done
          ]
    ]

-- the records that were read come first, and then those of the remaining bytes
reached-first : (cfg : Config) (rows : List Fields) (m n : ℕ) (s s2 : State) (bytes left : Bytes) → m ≡ length rows + n
    → Reached cfg s bytes rows s2 left → records_from cfg m s bytes ≡ rows ++ records_from cfg n s2 left
unfolding Reached records_from
reached-first cfg [] m n s s2 bytes left e reached = let same : m ≡ n = omega arith in rw (same, reached.0, reached.1) refl
reached-first cfg (row ∷ rows) zero n s s2 bytes left e reached = absurd (omega arith)
reached-first cfg (row ∷ rows) (suc m) n s s2 bytes left e reached =
    let (read, next, is, later) = reached in
    rw (next, is) (ap (λ (all : List Fields). read.0 ∷ all) (reached-first cfg rows m n read.1 s2 read.2 left (omega arith) later))

-- nothing is read at the end of a text
reached-end : (cfg : Config) (row : Fields) (rows : List Fields) (s2 : State) (left : Bytes) → Reached cfg state.StartRecord [] (row ∷ rows) s2 left → ⊥
unfolding Reached next_record
reached-end cfg row rows s2 left (read, next, is, later) = let no : ⊥ = cc next in no

-- there is at most one more record than bytes
reached-length : (cfg : Config) (rows : List Fields) (s s2 : State) (bytes left : Bytes) → Reached cfg s bytes rows s2 left → length rows ≤ length bytes + 1
unfolding Reached
reached-length cfg [] s s2 bytes left reached = omega arith
reached-length cfg (row ∷ []) s s2 bytes left reached = omega arith
reached-length cfg (row ∷ second ∷ rows) s s2 bytes left (read, next, is, later) =
    elim (next_record-takes cfg s [] [] bytes read next) [
      | inl less ↦ let most = reached-length cfg (second ∷ rows) read.1 s2 read.2 left later in omega arith
      | inr (none, start) ↦ absurd (reached-end cfg second rows s2 left (rw (none, start) at later))
    ]

-- nothing more is read after the last record
none-left : (cfg : Config) (n : ℕ) (s : State) (left : Bytes) → next_record cfg s [] [] left ≡ None → records_from cfg n s left ≡ []
unfolding records_from
none-left cfg zero s left e = refl
none-left cfg (suc n) s left e = rw e refl

module _ (text : Bytes) (rows : List Fields) (reader : TextReader) (has : HasRead text rows reader) where
  -- all records are those that were read, and those of the remaining bytes
  read_then : records_of text ≡ rows ++ records_from default_config (length (strip_bom text) + 1 - length rows) (reader_state reader) has.left
  read_then =
      let most = reached-length default_config rows state.StartRecord (reader_state reader) (strip_bom text) has.left has.reached in
      reached-first default_config rows (length (strip_bom text) + 1) (length (strip_bom text) + 1 - length rows) state.StartRecord (reader_state reader)
      (strip_bom text) has.left (omega arith) has.reached

  pub records-first : (later : List Fields) × (records_of text ≡ rows ++ later)
  records-first = (_, read_then)

  -- if no more can be read, they are all
  pub records-all : next_record default_config (reader_state reader) [] [] has.left ≡ None → records_of text ≡ rows
  records-all none = read_then ∙ rw (none-left default_config (length (strip_bom text) + 1 - length rows) (reader_state reader) has.left none) (append-nil rows)

-- the remaining bytes of the source of a reader
abbrev left_of : Bor Bytes → Option Bytes
left_of slice = Some slice.now

module _ (old new : TextReader) (fields : Fields) (text : Bytes) (rows : List Fields) (has : HasRead text rows old) where
  -- one more record was read
  pub read-more : ((reader_trim old ≡ trim.None) → Ready old → ReadRecord left_of old new true fields) → took_first new ≡ true → is_flexible new ≡ is_flexible old
      → HasRead text (rows ++ fields ∷ []) new
  read-more reads first flexible =
      let r = reads has.untrimmed has.ready in
      let (left, source, reached) = rows-more left_of old new fields default_config state.StartRecord (strip_bom text) has.left rows has.config has.source has.reached r in
      record { untrimmed = r.3 ∙ has.untrimmed; flexible = flexible ∙ has.flexible; ready = inl first; config = r.2 ∙ has.config; left = left; source = source; reached = reached }

  -- there was none
  pub read-none : ((reader_trim old ≡ trim.None) → Ready old → ReadRecord left_of old new false fields) → records_of text ≡ rows
  read-none reads = records-all text rows old has (rows-end left_of old new fields default_config has.left has.config has.source (reads has.untrimmed has.ready))
