-- Records that don't have two fields, and fields that aren't UTF-8.
use Rattle.std.proofs.Common.{◌≡◌, ℕ, [], ◌∷◌, length, Some, None, false, refl, arith, inl, inr}
use Rattle.std.proofs.lemmas.Bool.{cases_Bool}
use Rattle.std.proofs.lemmas.Str.{is_utf8-from_IsUtf8, IsUtf8-from_is_utf8}
use Rattle.std.specs.Prelude.{◌≢◌, Err}
use Rattle.std.specs.Str.{IsUtf8, is_utf8}
use Rattle.csv.specs.Records.{field_at}
use Rattle.rbac_sets.specs.Sets.{Bytes}
use Rattle.rbac_sets.specs.declared.refusal.Refusal.TheVariants.{BadCsv}
use Rattle.role_csv.specs.Assignments.{pair_of, is_header}
use Rattle.role_csv.specs.Records.{Fields}

-- if there are two fields, they are those at positions 0 and 1
pub two_fields-some : (fields : Fields) (a b : Bytes) → length fields ≡ 2 → Some a ≡ field_at fields 0 → Some b ≡ field_at fields 1 → fields ≡ a ∷ b ∷ []
unfolding field_at
two_fields-some [] a b two first second = absurd (omega arith)
two_fields-some (x ∷ []) a b two first second = absurd (omega arith)
two_fields-some (x ∷ y ∷ []) a b two first second = cc
two_fields-some (x ∷ y ∷ z ∷ fields) a b two first second = absurd (omega arith)

-- if there is no field at position 0, or none at position 1, there are not two
pub two_fields-none : (fields : Fields) → None ≡ field_at fields 0 → length fields ≢ 2
unfolding field_at
two_fields-none [] none two = omega arith
two_fields-none (x ∷ fields) none two = let no : ⊥ = cc in no

pub two_fields-one : (fields : Fields) → None ≡ field_at fields 1 → length fields ≢ 2
unfolding field_at
two_fields-one [] none two = omega arith
two_fields-one (x ∷ []) none two = omega arith
two_fields-one (x ∷ y ∷ fields) none two = let no : ⊥ = cc in no

pub ruleset two_fields_steps = (two_fields-some, two_fields-none, two_fields-one)

pub is_utf8-false : (bytes : Bytes) → (IsUtf8 bytes → ⊥) → is_utf8 bytes ≡ false
is_utf8-false bytes other =
    elim (cases_Bool (is_utf8 bytes)) [
      | inl good ↦ absurd (other (IsUtf8-from_is_utf8 bytes good))
      | inr bad ↦ bad
    ]

pub ruleset utf8_steps = (is_utf8-false, is_utf8-from_IsUtf8)

pub pair_of-other : (number : ℕ) (fields : Fields) → length fields ≢ 2 → pair_of number fields ≡ Err (BadCsv number)
unfolding pair_of
pair_of-other number [] other = refl
pair_of-other number (x ∷ []) other = refl
pair_of-other number (x ∷ y ∷ []) other = absurd (other refl)
pair_of-other number (x ∷ y ∷ z ∷ fields) other = refl

pub ruleset pair_steps = (pair_of-other)

pub is_header-other : (fields : Fields) → length fields ≢ 2 → is_header fields ≡ false
unfolding is_header
is_header-other [] other = refl
is_header-other (x ∷ []) other = refl
is_header-other (x ∷ y ∷ []) other = absurd (other refl)
is_header-other (x ∷ y ∷ z ∷ fields) other = refl
