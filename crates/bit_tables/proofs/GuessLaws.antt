-- Guesses by the fingerprints of names.
use Rattle.std.proofs.Common.{◌≡◌, ◌≢◌, ℕ, zero, suc, ◌<◌, List, [], ◌∷◌, ◌++◌, inl, inr, refl, sym, ◌∙◌, ap, arith}
use Rattle.std.specs.Prelude.{get_or, Option, Some, None}
use Rattle.std.specs.Str.{bytes_eq}
use Rattle.std.specs.Map.{update}
use Rattle.std.proofs.lemmas.Bool.{cases_eq}
use Rattle.bit_rows.specs.declared.row.TheConstants.{WIDTH}
use Rattle.rbac_sets.specs.Name.{fingerprint}
use Rattle.rbac_sets.specs.Sets.{Bytes}
use Rattle.bit_tables.specs.declared.number_table.TheConstants.{NEVER}
use Rattle.bit_tables.proofs.ByName.{same_bytes, some_none, updated_here, updated_other}

-- each name that has a number has a guess
abbrev pub AreGuessed : (Bytes → Option ℕ) → List ℕ → Type 0
AreGuessed numbers guesses = (name : Bytes) (n : ℕ) → numbers name ≡ Some n → get_or guesses (fingerprint name) NEVER ≢ NEVER

-- one more of what is read past the end changes nothing
pub read_more : (xs : List ℕ) (n d : ℕ) → get_or (xs ++ d ∷ []) n d ≡ get_or xs n d
read_more [] zero d = refl
read_more [] (suc n) d = refl
read_more (x ∷ xs) zero d = refl
read_more (x ∷ xs) (suc n) d = read_more xs n d

-- what has no value is None
pub is_none : {A : Type 0} (o : Option A) → ((x : A) → o ≡ Some x → ⊥) → None ≡ o
is_none None absent = refl
is_none (Some x) absent = absurd (absent x refl)

-- a number is a guess
pub number_guessed : (guess number : ℕ) → guess ≡ number → number < WIDTH → guess ≢ NEVER
number_guessed guess number is low never = omega (arith, is, low, never)

-- names and guesses that stay the same
pub guessed_same : (old new : Bytes → Option ℕ) (before after : List ℕ) → ((other : Bytes) → new other ≡ old other) → ((n : ℕ) → get_or after n NEVER ≡ get_or before n NEVER)
    → AreGuessed old before → AreGuessed new after
guessed_same old new before after numbers guesses guessed name n is never =
    guessed name n (sym (numbers name) ∙ is) (sym (guesses (fingerprint name)) ∙ never)

-- a name that gets a number, and a guess
pub guessed_put : (old new : Bytes → Option ℕ) (before after : List ℕ) (name : Bytes) (number : ℕ) → ((other : Bytes) → new other ≡ update bytes_eq old name (Some number) other)
    → get_or after (fingerprint name) NEVER ≢ NEVER → ((n : ℕ) → n ≢ fingerprint name → get_or after n NEVER ≡ get_or before n NEVER) → AreGuessed old before → AreGuessed new after
guessed_put old new before after name number changed here others guessed other n is never = elim (cases_eq (fingerprint other) (fingerprint name)) [
  | inl same ↦ here (sym (ap (λ place. get_or after place NEVER) same) ∙ never)
  | inr differ ↦
      let apart : other ≢ name = λ same. differ (ap fingerprint same) in
      guessed other n (sym (updated_other old new name (Some number) changed other apart) ∙ is) (sym (others (fingerprint other) differ) ∙ never)
]

-- a name that is taken
pub guessed_taken : (old new : Bytes → Option ℕ) (guesses : List ℕ) (name : Bytes) → ((other : Bytes) → new other ≡ update bytes_eq old name None other)
    → AreGuessed old guesses → AreGuessed new guesses
guessed_taken old new guesses name changed guessed other n is = elim (same_bytes other name) [
  | inl same ↦ absurd (some_none n (sym is ∙ ap new same ∙ updated_here old new name None changed))
  | inr differ ↦ guessed other n (sym (updated_other old new name None changed other differ) ∙ is)
]
