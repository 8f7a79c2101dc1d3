-- The numbers of a row, word by word.
use Rattle.std.proofs.Common.{◌≡◌, ◌≢◌, ℕ, zero, suc, ◌+◌, ◌*◌, ◌/◌, ◌%◌, ◌<◌, ◌≤◌, Bool, true, false, not, ◌&&◌, ◌||◌, List, [], ◌∷◌, ◌++◌, length, refl, sym, ◌∙◌, ap, inl, inr, arith}
use Rattle.std.specs.Prelude.{IsTrue, min, nat_eq, slice_index, slice_set}
use Rattle.std.specs.Int.{bit_at}
use Rattle.std.proofs.lemmas.Bool.{and_from, and_parts, cases_eq, cases_lt, eq-eqb, ne_eqb, eqb-true, true≢false}
use Rattle.std.proofs.lemmas.List.{get_or-set_same, get_or-set_other, get_or_past, length-set}
use Rattle.std.proofs.lemmas.Nat.Bits.{bit_at-zero}
use Rattle.bit_rows.specs.Rows.{HaveCommon, has_bit, word_has}

-- ---- one number

-- the row has the number if its word has the bit
pub has_from_bit : (words : List ℕ) (n : ℕ) → bit_at (slice_index words (n / 64)) (n % 64) ≡ 1 → has_bit words n ≡ true
unfolding has_bit
has_from_bit words n is = eq-eqb _ _ is

pub bit_from_has : (words : List ℕ) (n : ℕ) → has_bit words n ≡ true → bit_at (slice_index words (n / 64)) (n % 64) ≡ 1
unfolding has_bit
bit_from_has words n is = eqb-true _ _ is

pub absent_from_bit : (words : List ℕ) (n : ℕ) → bit_at (slice_index words (n / 64)) (n % 64) ≡ 0 → has_bit words n ≡ false
unfolding has_bit
absent_from_bit words n is = ne_eqb _ _ (λ one. let differ : 0 ≡ 1 = sym is ∙ one in omega (arith, differ))

-- the number at a bit of a word
pub place_word : (i bit : ℕ) → bit < 64 → (i * 64 + bit) / 64 ≡ i
place_word i bit low = omega (arith, low)

pub place_bit : (i bit : ℕ) → bit < 64 → (i * 64 + bit) % 64 ≡ bit
place_bit i bit low = omega (arith, low)

-- a word's bit, at its number
pub has_at_place : (words : List ℕ) (i bit : ℕ) → bit < 64 → bit_at (slice_index words i) bit ≡ 1 → has_bit words (i * 64 + bit) ≡ true
has_at_place words i bit low is =
    has_from_bit words (i * 64 + bit) (rw (place_word i bit low, place_bit i bit low) is)

pub absent_at_place : (words : List ℕ) (i bit : ℕ) → bit < 64 → bit_at (slice_index words i) bit ≡ 0 → has_bit words (i * 64 + bit) ≡ false
absent_at_place words i bit low is =
    absent_from_bit words (i * 64 + bit) (rw (place_word i bit low, place_bit i bit low) is)

-- ---- a word is written

module _ (words : List ℕ) (number word : ℕ) (within : number / 64 < length words) where
  written : (n : ℕ) → n / 64 ≡ number / 64 → slice_index (slice_set words (number / 64) word) (n / 64) ≡ word
  written n same = ap (slice_index (slice_set words (number / 64) word)) same ∙ get_or-set_same words (number / 64) word 0 within

  kept : (n : ℕ) → n / 64 ≢ number / 64 → slice_index (slice_set words (number / 64) word) (n / 64) ≡ slice_index words (n / 64)
  kept n other = get_or-set_other words (number / 64) (n / 64) word 0 other

  -- the bit of a number in the words after one was written in which only this number's bit may differ
  module _ (others : (i : ℕ) → i < 64 → i ≢ number % 64 → bit_at word i ≡ bit_at (slice_index words (number / 64)) i) where
    bit_other : (n : ℕ) → n ≢ number → bit_at (slice_index (slice_set words (number / 64) word) (n / 64)) (n % 64) ≡ bit_at (slice_index words (n / 64)) (n % 64)
    bit_other n differ = elim (cases_eq (n / 64) (number / 64)) [
      | inl same ↦
          let rest : n % 64 ≢ number % 64 = λ e. differ (omega (arith, same, e)) in
          ap (λ w. bit_at w (n % 64)) (written n same) ∙ others (n % 64) (omega arith) rest ∙ ap (λ k. bit_at (slice_index words k) (n % 64)) (sym same)
      | inr other ↦ ap (λ w. bit_at w (n % 64)) (kept n other)
    ]

    pub has_other : (n : ℕ) → n ≢ number → has_bit (slice_set words (number / 64) word) n ≡ has_bit words n
    unfolding has_bit
    has_other n differ = ap (λ b. nat_eq b 1) (bit_other n differ)

  -- the number itself has the new word's bit
  pub has_here : bit_at word (number % 64) ≡ 1 → has_bit (slice_set words (number / 64) word) number ≡ true
  has_here one = has_from_bit (slice_set words (number / 64) word) number (ap (λ w. bit_at w (number % 64)) (written number refl) ∙ one)

  pub absent_here : bit_at word (number % 64) ≡ 0 → has_bit (slice_set words (number / 64) word) number ≡ false
  absent_here none = absent_from_bit (slice_set words (number / 64) word) number (ap (λ w. bit_at w (number % 64)) (written number refl) ∙ none)

-- ---- two rows

-- no word up to here has a bit in common with the other's
abbrev pub AreApart : List ℕ → List ℕ → ℕ → Type 0
AreApart a b upto = (i : ℕ) → i < upto → HaveCommon (slice_index a i) (slice_index b i) → ⊥

-- a number of both rows is a bit of both words
pub common_word : (a b : List ℕ) (n : ℕ) → IsTrue (has_bit a n) → IsTrue (has_bit b n) → HaveCommon (slice_index a (n / 64)) (slice_index b (n / 64))
common_word a b n in_a in_b = (n % 64, omega arith, bit_from_has a n in_a, bit_from_has b n in_b)

pub common_number : (a b : List ℕ) (i : ℕ) → HaveCommon (slice_index a i) (slice_index b i) → (n : ℕ) × IsTrue (has_bit a n) × IsTrue (has_bit b n)
common_number a b i (bit, low, in_a, in_b) = (i * 64 + bit, has_at_place a i bit low in_a, has_at_place b i bit low in_b)

-- a number whose word is past the last isn't in the row
pub absent_past : (words : List ℕ) (n : ℕ) → length words ≤ n / 64 → has_bit words n ≡ false
absent_past words n past = absent_from_bit words n (ap (λ w. bit_at w (n % 64)) (get_or_past words (n / 64) 0 past) ∙ bit_at-zero (n % 64))

-- ---- a row, word by word

-- no number from the first on, below the place
abbrev pub IsEmptyFrom : List ℕ → ℕ → ℕ → Type 0
IsEmptyFrom words from place = (n : ℕ) → from ≤ n → n < place * 64 → has_bit words n ≡ false

-- each number below the place
abbrev pub IsFullTo : List ℕ → ℕ → Type 0
IsFullTo words place = (n : ℕ) → n < place * 64 → has_bit words n ≡ true

-- a word without a bit from this one on
pub empty_word : (words : List ℕ) (from i bit : ℕ) → from ≡ i * 64 + bit → bit < 64 → ((k : ℕ) → bit ≤ k → bit_at (slice_index words i) k ≡ 0) → IsEmptyFrom words from (i + 1)
empty_word words from i bit is low none n late below =
    let at : n / 64 ≡ i = omega (arith, is, late, below, low) in
    let past : bit ≤ n % 64 = omega (arith, is, late, below, low) in
    absent_from_bit words n (ap (λ k. bit_at (slice_index words k) (n % 64)) at ∙ none (n % 64) past)

-- one more word without a bit
pub empty_more : (words : List ℕ) (from i : ℕ) → IsEmptyFrom words from i → ((k : ℕ) → 0 ≤ k → bit_at (slice_index words i) k ≡ 0) → IsEmptyFrom words from (i + 1)
empty_more words from i before none n late below = elim (cases_lt n (i * 64)) [
  | inl less ↦ before n late less
  | inr past ↦
      let at : n / 64 ≡ i = omega (arith, past, below) in
      absent_from_bit words n (ap (λ k. bit_at (slice_index words k) (n % 64)) at ∙ none (n % 64) (omega arith))
]

pub empty_all : (words : List ℕ) (from i : ℕ) → length words ≤ i → IsEmptyFrom words from i → (n : ℕ) → from ≤ n → has_bit words n ≡ false
empty_all words from i whole empty n late = elim (cases_lt n (i * 64)) [
  | inl less ↦ empty n late less
  | inr past ↦ absent_past words n (omega (arith, past, whole))
]

-- the first bit of a word is the first number after the words before it
pub found_first : (words : List ℕ) (from i bit low : ℕ) → ((n : ℕ) → from ≤ n → n < i * 64 + low → has_bit words n ≡ false) → low ≤ bit → bit < 64
    → ((k : ℕ) → low ≤ k → k < bit → bit_at (slice_index words i) k ≡ 0) → (n : ℕ) → from ≤ n → n < i * 64 + bit → has_bit words n ≡ false
found_first words from i bit low before late within none n after below = elim (cases_lt n (i * 64 + low)) [
  | inl less ↦ before n after less
  | inr past ↦
      let at : n / 64 ≡ i = omega (arith, past, below, within) in
      absent_from_bit words n (ap (λ k. bit_at (slice_index words k) (n % 64)) at ∙ none (n % 64) (omega (arith, past, below, within)) (omega (arith, past, below, within)))
]

-- one more full word
pub full_more : (words : List ℕ) (i : ℕ) → IsFullTo words i → ((k : ℕ) → k < 64 → bit_at (slice_index words i) k ≡ 1) → IsFullTo words (i + 1)
full_more words i before full n below = elim (cases_lt n (i * 64)) [
  | inl less ↦ before n less
  | inr past ↦
      let at : n / 64 ≡ i = omega (arith, past, below) in
      has_from_bit words n (ap (λ k. bit_at (slice_index words k) (n % 64)) at ∙ full (n % 64) (omega arith))
]

-- no number has its word past the end of one of two rows and is in both
none_shared : (a b : List ℕ) (upto n : ℕ) → min (length a) (length b) ≤ upto → upto ≤ n / 64 → (has_bit a n && has_bit b n) ≡ false
none_shared a b upto n whole past = elim (cases_lt (length a) (length b)) [
  | inl less ↦ ap (λ x. x && has_bit b n) (absent_past a n (omega (arith, less, whole, past)))
  | inr more ↦ and_false (has_bit a n) (has_bit b n) (absent_past b n (omega (arith, more, whole, past)))
]
  where
    and_false : (x y : Bool) → y ≡ false → (x && y) ≡ false
    and_false true y none = none
    and_false false y none = refl

-- two rows without a common bit in any word that both have
pub none_common : (a b : List ℕ) (i : ℕ) → AreApart a b i → min (length a) (length b) ≤ i → (n : ℕ) → IsTrue (has_bit a n) → IsTrue (has_bit b n) → ⊥
none_common a b i apart whole n in_a in_b = elim (cases_lt (n / 64) i) [
  | inl below ↦ apart (n / 64) below (common_word a b n in_a in_b)
  | inr past ↦ true≢false (sym (and_from (has_bit a n) (has_bit b n) in_a in_b) ∙ none_shared a b i n whole past)
]

-- ---- two rows and the numbers that don't count

-- no number whose word is before this one is in both rows and not in the third
abbrev pub NoneWithout : List ℕ → List ℕ → List ℕ → ℕ → Type 0
NoneWithout a b without upto = (n : ℕ) → n / 64 < upto → IsTrue (has_bit a n) → IsTrue (has_bit b n) → has_bit without n ≡ false → ⊥

-- the bits of the one word that aren't in the other
abbrev pub AreRest : ℕ → ℕ → ℕ → Type 0
AreRest word without rest = (k : ℕ) → k < 64 → word_has rest k ≡ (word_has word k && not (word_has without k))

not_true : (x : Bool) → IsTrue (not x) → x ≡ false
not_true false is = refl
not_true true is = sym is

absent_at : (words : List ℕ) (i bit : ℕ) → bit < 64 → word_has (slice_index words i) bit ≡ false → has_bit words (i * 64 + bit) ≡ false
unfolding has_bit
absent_at words i bit low is = rw (place_word i bit low, place_bit i bit low) is

pub number_without : (a b without : List ℕ) (i rest : ℕ) → AreRest (slice_index b i) (slice_index without i) rest → HaveCommon (slice_index a i) rest
    → (n : ℕ) × IsTrue (has_bit a n) × IsTrue (has_bit b n) × (has_bit without n ≡ false)
number_without a b without i rest made (bit, low, in_a, in_rest) =
    let parts = and_parts (word_has (slice_index b i) bit) (not (word_has (slice_index without i) bit)) (sym (made bit low) ∙ eq-eqb _ _ in_rest) in (
      i * 64 + bit,
      has_at_place a i bit low in_a,
      has_at_place b i bit low (eqb-true _ _ parts.0),
      absent_at without i bit low (not_true (word_has (slice_index without i) bit) parts.1),
    )

pub without_more : (a b without : List ℕ) (i rest : ℕ) → AreRest (slice_index b i) (slice_index without i) rest → (HaveCommon (slice_index a i) rest → ⊥) → NoneWithout a b without i → NoneWithout a b without (i + 1)
unfolding has_bit
without_more a b without i rest made apart before n below in_a in_b out = elim (cases_eq (n / 64) i) [
  | inl same ↦ apart (here same)
  | inr differ ↦ before n (omega (arith, below, differ)) in_a in_b out
]
  where
    in_rest : n / 64 ≡ i → word_has rest (n % 64) ≡ true
    in_rest same =
        made (n % 64) (omega arith)
        ∙ and_from (word_has (slice_index b i) (n % 64)) (not (word_has (slice_index without i) (n % 64)))
        (ap (λ k. word_has (slice_index b k) (n % 64)) (sym same) ∙ in_b)
        (ap not (ap (λ k. word_has (slice_index without k) (n % 64)) (sym same) ∙ out))

    here : n / 64 ≡ i → HaveCommon (slice_index a i) rest
    here same = (n % 64, omega arith, ap (λ k. bit_at (slice_index a k) (n % 64)) (sym same) ∙ bit_from_has a n in_a, eqb-true _ _ (in_rest same))

pub without_all : (a b without : List ℕ) (i : ℕ) → NoneWithout a b without i → min (length a) (length b) ≤ i → (n : ℕ) → IsTrue (has_bit a n) → IsTrue (has_bit b n) → has_bit without n ≡ false → ⊥
without_all a b without i none whole n in_a in_b out = elim (cases_lt (n / 64) i) [
  | inl below ↦ none n below in_a in_b out
  | inr past ↦ true≢false (sym (and_from (has_bit a n) (has_bit b n) in_a in_b) ∙ none_shared a b i n whole past)
]

-- ---- words are written one after the other

-- the words below the place have the numbers that pass the test, and the others are the old ones
pub record AreChanged (words old : List ℕ) (test : ℕ → Bool) (upto : ℕ) : Type 0 where
  pub size : length words ≡ length old
  pub done : (n : ℕ) → n / 64 < upto → has_bit words n ≡ test n
  pub rest : (k : ℕ) → upto ≤ k → slice_index words k ≡ slice_index old k

pub changed_more : (words old : List ℕ) (test : ℕ → Bool) (i word : ℕ) → i < length words → AreChanged words old test i → ((n : ℕ) → n / 64 ≡ i → word_has word (n % 64) ≡ test n)
    → AreChanged (slice_set words i word) old test (i + 1)
unfolding has_bit
changed_more words old test i word within before written = record {
  size = length-set words i word ∙ before.size;
  done = λ n below. elim (cases_eq (n / 64) i) [
    | inl same ↦ ap (λ w. word_has w (n % 64)) (ap (slice_index (slice_set words i word)) same ∙ get_or-set_same words i word 0 within) ∙ written n same
    | inr differ ↦ ap (λ w. word_has w (n % 64)) (get_or-set_other words i (n / 64) word 0 differ) ∙ before.done n (omega (arith, below, differ))
  ];
  rest = λ k late. get_or-set_other words i k word 0 (λ same. omega (arith, late, same)) ∙ before.rest k (omega (arith, late));
}

-- after the last word
pub changed_all : (words old : List ℕ) (test : ℕ → Bool) (upto : ℕ) → length old ≤ upto → ((n : ℕ) → upto ≤ n / 64 → test n ≡ false) → AreChanged words old test upto → (n : ℕ) → has_bit words n ≡ test n
changed_all words old test upto whole none changed n = elim (cases_lt (n / 64) upto) [
  | inl below ↦ changed.done n below
  | inr past ↦ absent_past words n (omega (arith, past, whole, changed.size)) ∙ sym (none n (omega (arith, past)))
]

-- the numbers of either row
abbrev pub in_union : List ℕ → List ℕ → ℕ → Bool
in_union words others n = has_bit words n || has_bit others n

-- one more word gets the others' bits
pub union_more : (words old others : List ℕ) (i word : ℕ) → i < length words → AreChanged words old (in_union old others) i
    → ((k : ℕ) → word_has word k ≡ (word_has (slice_index words i) k || word_has (slice_index others i) k)) → AreChanged (slice_set words i word) old (in_union old others) (i + 1)
unfolding has_bit
union_more words old others i word inside before made =
    changed_more words old (in_union old others) i word inside before
    (λ n at. made (n % 64) ∙ (λ j. word_has ((before.rest i (omega arith) ∙ ap (slice_index old) (sym at)) j) (n % 64) || word_has (slice_index others (sym at j)) (n % 64)))

or_false : (x y : Bool) → y ≡ false → x ≡ (x || y)
or_false true y none = refl
or_false false y none = sym none

-- after the last word that can have other numbers
changed_rest : (words old : List ℕ) (added : ℕ → Bool) (upto : ℕ) → ((n : ℕ) → upto ≤ n / 64 → added n ≡ false) → AreChanged words old (λ n. has_bit old n || added n) upto
    → (n : ℕ) → has_bit words n ≡ (has_bit old n || added n)
unfolding has_bit
changed_rest words old added upto none changed n = elim (cases_lt (n / 64) upto) [
  | inl below ↦ changed.done n below
  | inr past ↦ ap (λ w. word_has w (n % 64)) (changed.rest (n / 64) past) ∙ or_false (has_bit old n) (added n) (none n past)
]

pub union_all : (words old others : List ℕ) (upto : ℕ) → length others ≤ upto → AreChanged words old (in_union old others) upto → (n : ℕ) → has_bit words n ≡ in_union old others n
union_all words old others upto whole changed = changed_rest words old (has_bit others) upto (λ n past. absent_past others n (omega (arith, past, whole))) changed

-- a row with the numbers that two others have
abbrev pub in_either : List ℕ → List ℕ → List ℕ → ℕ → Bool
in_either words a b n = has_bit words n || (has_bit a n && has_bit b n)

pub common_more : (words old a b : List ℕ) (i word : ℕ) → i < length words → AreChanged words old (in_either old a b) i
    → ((k : ℕ) → k < 64 → word_has word k ≡ (word_has (slice_index words i) k || (word_has (slice_index a i) k && word_has (slice_index b i) k)))
    → AreChanged (slice_set words i word) old (in_either old a b) (i + 1)
unfolding has_bit
common_more words old a b i word within before made =
    changed_more words old (in_either old a b) i word within before
    (λ n at. made (n % 64) (omega arith)
    ∙ (λ j. word_has ((before.rest i (omega arith) ∙ ap (slice_index old) (sym at)) j) (n % 64) || (word_has (slice_index a (sym at j)) (n % 64) && word_has (slice_index b (sym at j)) (n % 64))))

pub common_all : (words old a b : List ℕ) (upto : ℕ) → min (length a) (length b) ≤ upto → AreChanged words old (in_either old a b) upto → (n : ℕ) → has_bit words n ≡ in_either old a b n
common_all words old a b upto whole changed = changed_rest words old (λ n. has_bit a n && has_bit b n) upto (λ n past. none_shared a b upto n whole past) changed

-- ---- a word is appended

read_more : (words : List ℕ) (n : ℕ) → slice_index (words ++ 0 ∷ []) n ≡ slice_index words n
read_more [] zero = refl
read_more [] (suc n) = refl
read_more (x ∷ words) zero = refl
read_more (x ∷ words) (suc n) = read_more words n

pub has_more : (words : List ℕ) (n : ℕ) → has_bit (words ++ 0 ∷ []) n ≡ has_bit words n
unfolding has_bit
has_more words n = ap (λ w. word_has w (n % 64)) (read_more words (n / 64))
