-- What is kept of the rows of meta_row, and that it doesn't depend on their order.
use Rattle.std.proofs.Common.{◌≡◌, inl, inr, ℕ, suc, ℤ, ◌≤ℤ◌, List, [], ◌∷◌, ◌++◌, length, Bool, true, false, not, ◌&&◌, ◌||◌, Option, Some, None, IsTrue, All, refl, sym, ap, subst, ◌∙◌, arith, nat_eq}
use Rattle.std.specs.List.{list_all, list_any, Contains}
use Rattle.std.specs.Int.Signed.{lt_z, ≤ℤ_refl}
use Rattle.std.specs.List.Sorted.{IsPermutation}
use Rattle.std.proofs.lemmas.Bool.{cases_Bool, and_parts, eqb-true}
use Rattle.std.proofs.lemmas.Int.{ints}
use Rattle.std.proofs.lemmas.List.{append-nil}
use Rattle.std.proofs.lemmas.List.Folds.{list_all-append, list_any-append}
use Rattle.std.proofs.lemmas.List.Elements.{All-append, All-from_recursion, recursion_from_All, Contains-append_left, Contains-append_right}
use Rattle.std.proofs.lemmas.List.Sorted.{list_any-IsPermutation, length_permutation, All-permutation, Contains-permutation, IsPermutation-sym}
use Rattle.sqlite_trees.proofs.ListLemmas.{IsPermutation-flat_map}
use Rattle.std.specs.List.{AllByRecursion}
use Rattle.sqlite.specs.Order.{Row}
use Rattle.role_tables.specs.OfficeTables.{Meta}
use Rattle.role_tables.specs.TableContents.{is_well_typed, TableContents}
use Rattle.role_tables.specs.private.GatheredRows.{IsRead}
use Rattle.role_tables.specs.OpeningChecks.{values, is_tagged, version_at, listed, versions, is_number, is_known_version, is_single}
use Rattle.role_tables.specs.private.MetaRows.{IsUnknownOf, lesser, SeesMore, Sees}
use Rattle.role_tables.specs.declared.meta_rows.Metas.{Metas}

-- ---- lists

any_one : {A : Type 0} (p : A → Bool) (y : A) → list_any p (y ∷ []) ≡ p y
any_one p y = go (p y)
  where
    go : (b : Bool) → (b || false) ≡ b
    go true = refl
    go false = refl

all_one : {A : Type 0} (p : A → Bool) (y : A) → list_all p (y ∷ []) ≡ p y
all_one p y = go (p y)
  where
    go : (b : Bool) → (b && true) ≡ b
    go true = refl
    go false = refl

pub list_all-IsPermutation : {A : Type 0} (p : A → Bool) (xs ys : List A) → IsPermutation xs ys → list_all p xs ≡ list_all p ys
list_all-IsPermutation {A} p xs ys same = all_by xs ∙ ap not (list_any-IsPermutation (λ x. not (p x)) xs ys same) ∙ sym (all_by ys)
  where
    all_by : (l : List A) → list_all p l ≡ not (list_any (λ x. not (p x)) l)
    all_by [] = refl
    all_by (x ∷ xs) = elim (cases_Bool (p x)) [ inl yes_it ↦ rw yes_it (all_by xs) | inr no_it ↦ rw no_it refl ]

versions_more : (xs : List Row) (y : Row) → versions (xs ++ y ∷ []) ≡ versions xs ++ listed (version_at y)
versions_more [] y = append-nil (listed (version_at y))
versions_more (x ∷ xs) y = ap (λ l. listed (version_at x) ++ l) (versions_more xs y) ∙ assoc (listed (version_at x)) (versions xs) (listed (version_at y))
  where
    assoc : (a b c : List ℤ) → a ++ (b ++ c) ≡ (a ++ b) ++ c
    assoc [] b c = refl
    assoc (x ∷ a) b c = ap (λ l. x ∷ l) (assoc a b c)

length_more : (xs : List Row) (y : Row) → length (xs ++ y ∷ []) ≡ suc (length xs)
length_more [] y = refl
length_more (x ∷ xs) y = ap suc (length_more xs y)

differ : (a b : ℕ) → (a ≡ b → ⊥) → nat_eq a b ≡ false
differ a b apart = go (nat_eq a b) refl
  where
    go : (o : Bool) → nat_eq a b ≡ o → o ≡ false
    go false is = refl
    go true is = absurd (apart (eqb-true a b is))

single_more : (xs : List Row) (y : Row) → is_single (xs ++ y ∷ []) ≡ nat_eq (length xs) 0
single_more [] y = refl
single_more (x ∷ xs) y =
    let long : length ((x ∷ xs) ++ y ∷ []) ≡ suc (suc (length xs)) = length_more (x ∷ xs) y in
    ap (λ n. nat_eq n 1) long ∙ differ (suc (suc (length xs))) 1 (λ e. omega (arith, e)) ∙ sym (differ (suc (length xs)) 0 (λ e. omega (arith, e)))

none_more : (xs : List Row) (y : Row) → nat_eq (length (xs ++ y ∷ [])) 0 ≡ false
none_more xs y = ap (λ n. nat_eq n 0) (length_more xs y) ∙ differ (suc (length xs)) 0 (λ e. omega (arith, e))

-- ---- the least number that is no known version

abbrev IsBelow : ℤ → ℤ → Type 0
IsBelow n m = is_known_version m ≡ false → n ≤ℤ m

contains_one : (n : ℤ) → Contains (n ∷ []) n
contains_one n = (0, omega arith, refl)

all_known : (n : ℤ) (numbers : List ℤ) → IsTrue (list_all is_known_version numbers) → AllByRecursion (IsBelow n) numbers
all_known n [] known = tt
all_known n (m ∷ ms) known =
    let both = and_parts (is_known_version m) (list_all is_known_version ms) known in
    (λ unknown. absurd (let e = sym both.0 ∙ unknown in cc), all_known n ms both.1)

lower : (n m : ℤ) (numbers : List ℤ) → n ≤ℤ m → AllByRecursion (IsBelow m) numbers → AllByRecursion (IsBelow n) numbers
lower n m [] low all = tt
lower n m (k ∷ ks) low all = (λ unknown. let high = all.0 unknown in omega (arith, ints, low, high), lower n m ks low all.1)

with_one : (n m : ℤ) (numbers : List ℤ) → All (IsBelow n) numbers → IsBelow n m → All (IsBelow n) (numbers ++ m ∷ [])
with_one n m numbers all one = All-append (IsBelow n) numbers (m ∷ []) all (All-from_recursion (IsBelow n) (m ∷ []) (one, tt))

unknown_more : (numbers : List ℤ) (least version : Option ℤ) → IsUnknownOf numbers least → IsUnknownOf (numbers ++ listed version) (lesser least version)
unknown_more numbers least None so = subst (λ l. IsUnknownOf l least) (sym (append-nil numbers)) so
unknown_more numbers None (Some n) so = elim (cases_Bool (is_known_version n)) [
  | inl known ↦ rw known (list_all-append is_known_version numbers (n ∷ []) ∙ rw (so, known) refl)
  | inr unknown ↦ rw unknown (record {
    there = Contains-append_right numbers (n ∷ []) n (contains_one n);
    unknown = unknown;
    least = with_one n n numbers (All-from_recursion (IsBelow n) numbers (all_known n numbers so)) (λ _. ≤ℤ_refl n);
  })
]
unknown_more numbers (Some m) (Some n) so = elim (cases_Bool (is_known_version n)) [
  | inl known ↦ rw known (record {
    there = Contains-append_left numbers (n ∷ []) m so.there;
    unknown = so.unknown;
    least = with_one m n numbers so.least (λ unknown. absurd (let e = sym known ∙ unknown in cc));
  })
  | inr unknown ↦ rw unknown (elim (cases_Bool (lt_z n m)) [
    | inl less ↦ rw less (record {
      there = Contains-append_right numbers (n ∷ []) n (contains_one n);
      unknown = unknown;
      least = with_one n n numbers (All-from_recursion (IsBelow n) numbers (lower n m numbers (omega (arith, ints, less)) (recursion_from_All (IsBelow m) numbers so.least))) (λ _. ≤ℤ_refl n);
    })
    | inr more ↦ rw more (record {
      there = Contains-append_left numbers (n ∷ []) m so.there;
      unknown = so.unknown;
      least = with_one m n numbers so.least (λ _. omega (arith, ints, more));
    })
  ])
]

pub unknown_same : (xs ys : List ℤ) (least : Option ℤ) → IsPermutation xs ys → IsUnknownOf xs least → IsUnknownOf ys least
unknown_same xs ys None same so = sym (list_all-IsPermutation is_known_version xs ys same) ∙ so
unknown_same xs ys (Some n) same so = record { there = Contains-permutation xs ys n same so.there; unknown = so.unknown; least = All-permutation (IsBelow n) xs ys same so.least }

-- ---- what is kept

pub sees_more : (xs : List Row) (y : Row) (a b : Metas) → Sees xs a → SeesMore y a b → Sees (xs ++ y ∷ []) b
sees_more xs y a b so more = record {
  tagged = more.tagged ∙ ap (λ o. o || is_tagged y) so.tagged ∙ ap (λ o. list_any is_tagged xs || o) (sym (any_one is_tagged y)) ∙ sym (list_any-append is_tagged xs (y ∷ []));
  unknown = subst (λ l. IsUnknownOf l b.unknown) (sym (versions_more xs y)) (subst (IsUnknownOf (versions xs ++ listed (version_at y))) (sym more.unknown) (unknown_more (versions xs) a.unknown (version_at y) so.unknown));
  second = more.second ∙ ap (λ o. o || list_any (is_number 2) (listed (version_at y))) so.second ∙ sym (list_any-append (is_number 2) (versions xs) (listed (version_at y))) ∙ ap (list_any (is_number 2)) (sym (versions_more xs y));
  whole = more.whole ∙ ap (λ o. o && is_well_typed Meta y) so.whole ∙ ap (λ o. list_all (is_well_typed Meta) xs && o) (sym (all_one (is_well_typed Meta) y)) ∙ sym (list_all-append (is_well_typed Meta) xs (y ∷ []));
  one = more.one ∙ so.empty ∙ sym (single_more xs y);
  empty = more.empty ∙ sym (none_more xs y);
}

versions_same : (xs ys : List Row) → IsPermutation xs ys → IsPermutation (versions xs) (versions ys)
versions_same = IsPermutation-flat_map (λ row. listed (version_at row))

pub sees_same : (xs ys : List Row) (metas : Metas) → IsPermutation xs ys → Sees ys metas → Sees xs metas
sees_same xs ys metas same so =
    let long : length ys ≡ length xs = length_permutation xs ys same in record {
      tagged = so.tagged ∙ sym (list_any-IsPermutation is_tagged xs ys same);
      unknown = unknown_same (versions ys) (versions xs) metas.unknown (IsPermutation-sym _ _ (versions_same xs ys same)) so.unknown;
      second = so.second ∙ sym (list_any-IsPermutation (is_number 2) (versions xs) (versions ys) (versions_same xs ys same));
      whole = so.whole ∙ sym (list_all-IsPermutation (is_well_typed Meta) xs ys same);
      one = so.one ∙ ap (λ n. nat_eq n 1) long;
      empty = so.empty ∙ ap (λ n. nat_eq n 0) long;
    }

pub sees_read : (found : TableContents) (shown : List Row) (metas : Metas) → IsRead (found Meta) shown → Sees shown metas → Sees (values found Meta) metas
sees_read found shown metas read so = go (found Meta) read
  where
    go : (o : Option (List Row)) → IsRead o shown → Sees (elim o [ Some rows ↦ rows | None ↦ [] ]) metas
    go None read = absurd read
    go (Some rows) read = sees_same rows shown metas read so
