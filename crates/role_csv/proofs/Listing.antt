-- The assignments of a text, derived from the records that were read.
use Rattle.std.proofs.Common.{◌≡◌, ◌≤◌, ◌<◌, ◌∙◌, ◌+◌, ℕ, suc, List, [], ◌∷◌, ◌++◌, length, length-append, append_assoc, Ok, Err, true, false, refl, arith, rules}
use Rattle.std.specs.Prelude.{Result, nat_le}
use Rattle.rbac_sets.specs.Sets.{Bytes, Pair}
use Rattle.rbac_sets.specs.declared.kind.Kind.TheVariants as kind
use Rattle.rbac_sets.specs.declared.refusal.Refusal.{Refusal}
use Rattle.rbac_sets.specs.declared.refusal.Refusal.TheVariants.{BadCsv, TooMany}
use Rattle.role_csv.specs.Assignments.{assignments, is_header, judged, most_bytes, most_records, pair_of, pair_then, pairs_from, under_header}
use Rattle.role_csv.specs.Records.{Fields, records_of}
use Rattle.role_csv.specs.private.Reading.{HasRead, TextReader}
use Rattle.role_csv.proofs.ReadRecords.{records-first}

-- ---- the pairs of records

-- pairs and the pairs after them, or the refusal of the latter
abbrev pairs_then : List Pair → Result (List Pair) Refusal → Result (List Pair) Refusal
pairs_then pairs (Ok rest) = Ok (pairs ++ rest)
pairs_then pairs (Err refusal) = Err refusal

pairs_then-none : (rest : Result (List Pair) Refusal) → rest ≡ pairs_then [] rest
pairs_then-none (Ok pairs) = refl
pairs_then-none (Err refusal) = refl

pairs_then-one : (pair : Pair) (pairs : List Pair) (rest : Result (List Pair) Refusal) → pair_then (Ok pair) (pairs_then pairs rest) ≡ pairs_then (pair ∷ pairs) rest
pairs_then-one pair pairs (Ok more) = refl
pairs_then-one pair pairs (Err refusal) = refl

pairs_from-append : (k : ℕ) (body rest : List Fields) (pairs : List Pair) → pairs_from k body ≡ Ok pairs
    → pairs_from k (body ++ rest) ≡ pairs_then pairs (pairs_from (k + length body) rest)
unfolding pairs_from
pairs_from-append k [] rest pairs e =
    let none : [] ≡ pairs = cc e in
    let same : k + 0 ≡ k = omega arith in
    rw (← none, same) (pairs_then-none (pairs_from k rest))
pairs_from-append k (fields ∷ body) rest pairs e = by (judged k fields) (pairs_from (k + 1) body) refl refl e (pairs_from-append (k + 1) body rest)
  where
    by : (first : Result Pair Refusal) (later : Result (List Pair) Refusal) → judged k fields ≡ first → pairs_from (k + 1) body ≡ later → pair_then first later ≡ Ok pairs
        → ((ps : List Pair) → pairs_from (k + 1) body ≡ Ok ps → pairs_from (k + 1) (body ++ rest) ≡ pairs_then ps (pairs_from ((k + 1) + length body) rest))
        → pair_then (judged k fields) (pairs_from (k + 1) (body ++ rest)) ≡ pairs_then pairs (pairs_from (k + suc (length body)) rest)
    by (Err refusal) later is are told more = let no : ⊥ = cc told in absurd no
    by (Ok pair) (Err refusal) is are told more = let no : ⊥ = cc told in absurd no
    by (Ok pair) (Ok ps) is are told more =
        let all : pair ∷ ps ≡ pairs = cc told in
        let place : (k + 1) + length body ≡ k + suc (length body) = omega arith in
        rw (is, ← all, more ps are, place) (pairs_then-one pair ps (pairs_from (k + suc (length body)) rest))

-- ---- the assignments of a text

-- a text that isn't too long lists the records after its header
assignments-fit : (text : Bytes) → length text ≤ most_bytes → assignments text ≡ under_header (records_of text)
unfolding assignments
assignments-fit text h =
    let fits : nat_le (length text) most_bytes ≡ true = search rules in rw fits refl

pub assignments-long : (text : Bytes) → most_bytes < length text → assignments text ≡ Err (TooMany kind.Byte)
unfolding assignments
assignments-long text h =
    let long : nat_le (length text) most_bytes ≡ false = search rules in rw long refl

pub no_header : (text : Bytes) → length text ≤ most_bytes → records_of text ≡ [] → assignments text ≡ Err (BadCsv 0)
no_header text h none = assignments-fit text h ∙ rw none refl

pub bad_header : (text : Bytes) (header : Fields) (reader : TextReader) → length text ≤ most_bytes → HasRead text (header ∷ []) reader
    → is_header header ≡ false → assignments text ≡ Err (BadCsv 0)
bad_header text header reader h has bad =
    let (later, all) = records-first text (header ∷ []) reader has in assignments-fit text h ∙ rw (all, bad) refl

-- a reader has read the header and the records of these pairs, and the next record has this number
pub record HasListed (text : Bytes) (number : ℕ) (pairs : List Pair) (reader : TextReader) : Type 0 where
  pub fits : length text ≤ most_bytes
  pub header : Fields
  pub is_header : is_header header ≡ true
  pub body : List Fields
  pub read : HasRead text (header ∷ body) reader
  pub pairs_are : pairs_from 1 body ≡ Ok pairs
  pub count : number ≡ 1 + length body

pub good_header : (text : Bytes) (header : Fields) (reader : TextReader) (pairs : List Pair) → length text ≤ most_bytes → HasRead text (header ∷ []) reader
    → is_header header ≡ true → pairs ≡ [] → HasListed text 1 pairs reader
unfolding pairs_from
good_header text header reader pairs h has good none =
    record { fits = h; header = header; is_header = good; body = []; read = has; pairs_are = rw none refl; count = refl }

module _ (text : Bytes) (number : ℕ) (pairs : List Pair) (old : TextReader) (has : HasListed text number pairs old) where
  -- there is no further record
  pub listed-all : records_of text ≡ has.header ∷ has.body → assignments text ≡ Ok pairs
  listed-all all = assignments-fit text has.fits ∙ rw (all, has.is_header) has.pairs_are

  -- the next record was read
  next_listed : (fields : Fields) (new : TextReader) → HasRead text ((has.header ∷ has.body) ++ fields ∷ []) new
      → (later : List Fields) × (assignments text ≡ pairs_then pairs (pair_then (judged number fields) (pairs_from (number + 1) later)))
  unfolding pairs_from
  next_listed fields new read =
      let (later, all) = records-first text ((has.header ∷ has.body) ++ fields ∷ []) new read in (
        later,
        assignments-fit text has.fits ∙ rw (all, has.is_header, append_assoc has.body (fields ∷ []) later)
            (pairs_from-append 1 has.body (fields ∷ later) pairs has.pairs_are ∙ rw has.count refl),
      )

  -- it is refused
  pub listed-refused : (fields : Fields) (new : TextReader) (refusal : Refusal) → HasRead text ((has.header ∷ has.body) ++ fields ∷ []) new
      → number ≤ most_records → pair_of number fields ≡ Err refusal → assignments text ≡ Err refusal
  listed-refused fields new refusal read h bad =
      let (later, told) = next_listed fields new read in
      let fits : nat_le number most_records ≡ true = search rules in told ∙ rw (fits, bad) refl

  -- it is beyond the limit
  pub listed-too_many : (fields : Fields) (new : TextReader) → HasRead text ((has.header ∷ has.body) ++ fields ∷ []) new
      → most_records < number → assignments text ≡ Err (TooMany kind.Record)
  listed-too_many fields new read h =
      let (later, told) = next_listed fields new read in
      let many : nat_le number most_records ≡ false = search rules in told ∙ rw many refl

  -- it lists a pair
  pub listed-more : (fields : Fields) (new : TextReader) (pair : Pair) (more : List Pair) → HasRead text ((has.header ∷ has.body) ++ fields ∷ []) new
      → number ≤ most_records → pair_of number fields ≡ Ok pair → more ≡ pairs ++ pair ∷ [] → HasListed text (number + 1) more new
  unfolding pairs_from
  listed-more fields new pair more read h good is =
      let fits : nat_le number most_records ≡ true = search rules in
      record {
        fits = has.fits;
        header = has.header;
        is_header = has.is_header;
        body = has.body ++ fields ∷ [];
        read = read;
        pairs_are = pairs_from-append 1 has.body (fields ∷ []) pairs has.pairs_are ∙ rw (← has.count, fits, good, is) refl;
        count = rw (length-append has.body (fields ∷ [])) (omega (arith, has.count));
      }
