-- How texts of assignments are refused.
use Rattle.std.proofs.Common.{◌≡◌, inl, inr, ◌+◌, ℕ, Bool, true, false, List, [], ◌∷◌, Ok, Err, refl, subst}
use Rattle.std.proofs.lemmas.Bool.{cases_Bool}
use Rattle.std.specs.Prelude.{Result, ◌&&◌, if◌then◌else◌, nat_le, length}
use Rattle.std.specs.Str.{is_utf8}
use Rattle.rbac_sets.specs.Name.{is_name}
use Rattle.rbac_sets.specs.Sets.{Bytes, Pair}
use Rattle.rbac_sets.specs.declared.kind.Kind.TheVariants.{Byte}
use Rattle.rbac_sets.specs.declared.refusal.Refusal.{Refusal}
use Rattle.rbac_sets.specs.declared.refusal.Refusal.TheVariants.{BadName, BadCsv, TooMany}
use Rattle.role_csv.specs.Assignments.{assignments, is_header, judged, most_bytes, most_records, pair_of, pair_of_names, pair_then, pairs_from, under_header}
use Rattle.role_csv.specs.Records.{Fields, records_of}
use Rattle.role_csv.specs.TextLaws.{refuses_texts, RefusalsOfTexts}

-- a value, or a refusal by which a text may be refused
abbrev RefusesAsTexts : {A : Type 0} → Result A Refusal → Type 0
RefusesAsTexts (Ok value) = Unit {0}
RefusesAsTexts (Err refusal) = refuses_texts refusal ≡ true

-- a value, or such a refusal if a test fails
unless : {A : Type 0} (b : Bool) (value : Result A Refusal) (refusal : Refusal) → RefusesAsTexts value → refuses_texts refusal ≡ true → RefusesAsTexts (if b then value else Err refusal)
unless true value refusal allowed bad = allowed
unless false value refusal allowed bad = bad

names_refusals : (user role : Bytes) → RefusesAsTexts (pair_of_names user role)
unfolding pair_of_names
names_refusals user role = unless (is_name user && is_name role) (Ok (user, role)) BadName tt refl

-- a record whose number is within the limit
pair_refusals : (number : ℕ) (fields : Fields) → nat_le number most_records ≡ true → RefusesAsTexts (pair_of number fields)
unfolding pair_of
pair_refusals number [] fits = fits
pair_refusals number (user ∷ []) fits = fits
pair_refusals number (user ∷ role ∷ []) fits = unless (is_utf8 user && is_utf8 role) (pair_of_names user role) (BadCsv number) (names_refusals user role) fits
pair_refusals number (user ∷ role ∷ more ∷ fields) fits = fits

judged_refusals : (number : ℕ) (fields : Fields) → RefusesAsTexts (judged number fields)
judged_refusals number fields = elim (cases_Bool (nat_le number most_records)) [
  | inl fits ↦ rw fits (pair_refusals number fields fits)
  | inr many ↦ rw many refl
]

then_refusals : (first : Result Pair Refusal) (rest : Result (List Pair) Refusal) → RefusesAsTexts first → RefusesAsTexts rest → RefusesAsTexts (pair_then first rest)
then_refusals (Err refusal) rest allowed later = allowed
then_refusals (Ok pair) (Err refusal) allowed later = later
then_refusals (Ok pair) (Ok pairs) allowed later = tt

pairs_refusals : (number : ℕ) (records : List Fields) → RefusesAsTexts (pairs_from number records)
unfolding pairs_from
pairs_refusals number [] = tt
pairs_refusals number (fields ∷ rest) = then_refusals (judged number fields) (pairs_from (number + 1) rest) (judged_refusals number fields) (pairs_refusals (number + 1) rest)

records_refusals : (records : List Fields) → RefusesAsTexts (under_header records)
records_refusals [] = refl
records_refusals (header ∷ rest) = unless (is_header header) (pairs_from 1 rest) (BadCsv 0) (pairs_refusals 1 rest) refl

-- so a text is refused only by one of them
pub refusals_of_texts : RefusalsOfTexts
unfolding assignments
refusals_of_texts text refusal is =
    subst RefusesAsTexts is (unless (nat_le (length text) most_bytes) (under_header (records_of text)) (TooMany Byte) (records_refusals (records_of text)) refl)
