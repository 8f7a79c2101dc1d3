-- What the getters return for an argument that is given.
use Rattle.std.proofs.Common.{◌≡◌, ◌∙◌, ◌<◌, ◌≤◌, ◌^◌, ℕ, List, [], Option, Some, None, Result, Ok, Err, refl, sym, subst, ap}
use Rattle.std.specs.Prelude.{IfErr, IfOk, option_map, pos, unwrap_or}
use Rattle.std.specs.Str.Parse.{ParsesUnsigned}
use Rattle.clap.specs.Words.{ReadsOne, Row, Text, one_of, without_minus, FailsBy, HasKind, Kinds, first_of}
use Rattle.clap.specs.declared.builder.ValueParser.{ValueParser}
use Rattle.clap.specs.declared.builder.ValueParser.TheVariants as parser
use Rattle.clap.specs.declared.error.Error.{Error}
use Rattle.clap.proofs.CallerReads.{signed_reads}
use Rattle.role_cli.specs.private.GivenArguments.{IsGiven}
use Rattle.role_cli.specs.ArgumentChoice.{IsWordOf}

pub none_at_ok : {T : Type 0} (kinds : Kinds) (r : Result T Error) → FailsBy kinds r → IfOk r (λ _. kinds ≡ [])
none_at_ok kinds (Ok x) h = h
none_at_ok kinds (Err e) h = tt

pub kind_at_err : {T : Type 0} (kinds : Kinds) (r : Result T Error) → FailsBy kinds r → IfErr r (HasKind kinds)
kind_at_err kinds (Ok x) h = tt
kind_at_err kinds (Err e) h = h

-- the number that `get_one` reads of a given argument is there, in its range, and the one that its text is in digits
pub reads_number : (E : Type 0) (G : List ℕ → Result ℕ E → Type 0) (k low high : ℕ) (id : Text) (rows : List Row) (r : Option ℕ)
    → IsGiven (parser.Signed (pos low) (pos high)) id rows → ((t : Text) → one_of id rows ≡ Some t → ReadsOne G t r)
    → ((u : List ℕ) (x : Result ℕ E) → G u x → ParsesUnsigned k 10 u x) → high < 2 ^ k
    → (n : ℕ) × (r ≡ Some n) × (low ≤ n) × (n ≤ high) × IsWordOf (one_of id rows) n
reads_number E G k low high id rows r given some only fits =
    let t = given.0 in
    let reads = some (without_minus t) given.2 in
    let got = signed_reads E G k low high t r reads only fits given.3 in
    (got.0, got.1, got.2, got.3, word (one_of id rows) (without_minus t) got.0 given.2 (subst (λ o. ReadsOne G (without_minus t) o) got.1 reads))
  where
    word : (o : Option Text) (t : Text) (n : ℕ) → o ≡ Some t → ReadsOne G t (Some n) → IsWordOf o n
    word o t n e h = subst (λ x. IsWordOf x n) (sym e) (sym (only t (Ok n) h).1)

pub reads_this : (low high : ℕ) (word : Option Text) (r : Option ℕ) (k : ℕ) → (n : ℕ) × (r ≡ Some n) × (low ≤ n) × (n ≤ high) × IsWordOf word n → r ≡ Some k
    → (low ≤ k) × (k ≤ high) × IsWordOf word k
reads_this low high word r k got is =
    let same : Some got.0 ≡ Some k = sym got.1 ∙ is in
    let n_is : got.0 ≡ k = ap (λ o. unwrap_or o 0) same in
    (subst (λ n. low ≤ n) n_is got.2, subst (λ n. n ≤ high) n_is got.3, subst (IsWordOf word) n_is got.4)

pub reads_some : (low high : ℕ) (word : Option Text) (r : Option ℕ) → (n : ℕ) × (r ≡ Some n) × (low ≤ n) × (n ≤ high) × IsWordOf word n → r ≡ None → ⊥
reads_some low high word r got is =
    let same : Some got.0 ≡ None = sym got.1 ∙ is in
    cc

-- a given argument has a first value
pub given_first : (p : ValueParser) (id : Text) (rows : List Row) (o : Option Text) → IsGiven p id rows → o ≡ first_of id rows → o ≡ None → ⊥
given_first p id rows o given is none =
    let same : Some given.0 ≡ None = sym given.1 ∙ (sym is ∙ none) in
    cc

-- the two halves of an optional pair, joined
pub joined : {X A B S T : Type 0} (o : Option X) (f : X → S) (g : X → T) (r : Option (A × B)) (n : A → S) (w : B → T)
    → option_map (λ (p : A × B). n p.0) r ≡ option_map f o
    → option_map (λ (p : A × B). w p.1) r ≡ option_map (λ (q : S × T). q.1) (option_map (λ (b : X). let q : S × T = (f b, g b) in q) o)
    → option_map (λ (p : A × B). let q : S × T = (n p.0, w p.1) in q) r ≡ option_map (λ (b : X). let q : S × T = (f b, g b) in q) o
joined None f g None n w e h = refl
joined None f g (Some p) n w e h = cc
joined (Some b) f g None n w e h = cc
joined (Some b) f g (Some p) n w e h = cc
