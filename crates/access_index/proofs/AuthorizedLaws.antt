-- What an index knows about the roles that users are authorized for.
use Rattle.std.proofs.Common.{◌≡◌, ◌≢◌, ◌⊎◌, ◌↔◌, ℕ, ◌<◌, ◌≤◌, ◌+◌, Bool, false, ◌||◌, List, inl, inr, sym, ◌∙◌, ap, subst, arith}
use Rattle.std.specs.Prelude.{IsTrue, Option, Some, None, IfSome, Result, Ok, Err, OnOk, OnErr}
use Rattle.std.specs.Str.{bytes_eq}
use Rattle.std.specs.Map.{update}
use Rattle.std.specs.HashMap.{get_by_text}
use Rattle.std.proofs.lemmas.Bool.{true≢false, cases_eq, cases_lt, or_cases, or_left, or_right}
use Rattle.bit_rows.specs.declared.row.BitRow.{BitRow}
use Rattle.bit_rows.specs.Rows.{has}
use Rattle.rbac_sets.specs.Sets.{Bytes}
use Rattle.bit_tables.specs.declared.table.BitTable.{BitTable}
use Rattle.bit_tables.specs.Tables.{has_at}
use Rattle.bit_tables.proofs.ByName.{same_bytes, updated_here, updated_other}
use Rattle.access_index.specs.declared.index.AccessIndex.{AccessIndex}
use Rattle.access_index.specs.Index.{IsAuthorized, IsReached, Keeps, Rows, assigned_bits, authorized_row, is_below}
use Rattle.access_index.specs.private.Reaching.{Reaches}

-- ---- an index whose rows, and whose assignments, change

-- an index with the same tables
pub authorized_same : (index new : AccessIndex) → new.assigned ≡ index.assigned → new.juniors ≡ index.juniors → new.authorized ≡ index.authorized → ((user : Bytes) → IfSome (authorized_row index user) (IsAuthorized index user))
    → (user : Bytes) → IfSome (authorized_row new user) (IsAuthorized new user)
authorized_same index new assigned juniors authorized known user =
    subst (λ (table : BitTable). IfSome (authorized_row new user) (λ row. (n : ℕ) → IsTrue (has row n) ↔ IsReached new.juniors.items (has_at table user) n)) (sym assigned)
    (subst (λ rows. IfSome (authorized_row new user) (λ row. (n : ℕ) → IsTrue (has row n) ↔ IsReached rows.items (has_at index.assigned user) n)) (sym juniors)
    (subst (λ rows. IfSome (get_by_text rows user) (IsAuthorized index user)) (sym authorized) (known user)))

-- bits that are the same reach the same numbers
reached_same : (rows : List BitRow) (bits bits' : ℕ → Bool) → ((i : ℕ) → bits' i ≡ bits i) → (row : BitRow) → ((n : ℕ) → IsTrue (has row n) ↔ IsReached rows bits n) → (n : ℕ) → IsTrue (has row n) ↔ IsReached rows bits' n
reached_same rows bits bits' same row is n = (
  λ there. let from = (is n).0 there in (from.0, same from.0 ∙ from.1, from.2),
  λ from. (is n).1 (from.0, sym (same from.0) ∙ from.1, from.2),
)

-- a user with the same bits
pub authorized_again : (index : AccessIndex) (table : BitTable) (user : Bytes) → ((n : ℕ) → has_at table user n ≡ has_at index.assigned user n) → (row : Option BitRow)
    → IfSome row (IsAuthorized index user) → IfSome row (IsAuthorized (record index { assigned = table }) user)
authorized_again index table user same None is = tt
authorized_again index table user same (Some row) is = reached_same index.juniors.items (has_at index.assigned user) (has_at table user) same row is

-- the bits of a user change, of whom it isn't known
pub authorized_others : (index : AccessIndex) (table : BitTable) (user : Bytes) → authorized_row index user ≡ None → ((other : Bytes) (n : ℕ) → other ≢ user → has_at table other n ≡ has_at index.assigned other n)
    → ((other : Bytes) → IfSome (authorized_row index other) (IsAuthorized index other)) → (other : Bytes) → IfSome (authorized_row index other) (IsAuthorized (record index { assigned = table }) other)
authorized_others index table user gone same known other = elim (same_bytes other user) [
  | inl is ↦ subst (λ row. IfSome row (IsAuthorized (record index { assigned = table }) other)) (sym (ap (authorized_row index) is ∙ gone)) tt
  | inr differ ↦ authorized_again index table other (λ n. same other n differ) (authorized_row index other) (known other)
]

-- it is known of no user
pub none_authorized : (index new : AccessIndex) → ((user : Bytes) → authorized_row index user ≡ None) → (user : Bytes) → IfSome (authorized_row index user) (IsAuthorized new user)
none_authorized index new none user = subst (λ row. IfSome row (IsAuthorized new user)) (sym (none user)) tt

-- a row is forgotten, or a right one is kept
pub authorized_updated : (index : AccessIndex) (new : Bytes → Option BitRow) (name : Bytes) (row : Option BitRow) → ((other : Bytes) → new other ≡ update bytes_eq (authorized_row index) name row other) → IfSome row (IsAuthorized index name)
    → ((user : Bytes) → IfSome (authorized_row index user) (IsAuthorized index user)) → (user : Bytes) → IfSome (new user) (IsAuthorized index user)
authorized_updated index new name row changed right known user = elim (same_bytes user name) [
  | inl same ↦
      subst (λ x. IfSome (new x) (IsAuthorized index x)) (sym same)
      (subst (λ o. IfSome o (IsAuthorized index name)) (sym (updated_here (authorized_row index) new name row changed)) right)
  | inr differ ↦ subst (λ o. IfSome o (IsAuthorized index user)) (sym (updated_other (authorized_row index) new name row changed user differ)) (known user)
]

-- the index keeps the same rows with other rows of users, if these are right
pub keeps_authorized : (index new : AccessIndex) (rows : Rows) → new ≡ record index { authorized = new.authorized } → ((user : Bytes) → IfSome (authorized_row new user) (IsAuthorized index user)) → Keeps index rows → Keeps new rows
keeps_authorized index new rows same known keeps = subst (λ i. Keeps i rows) (sym same) (record {
  numbers = keeps.numbers;
  assigned = keeps.assigned;
  sessions = keeps.sessions;
  grants = keeps.grants;
  juniors = keeps.juniors;
  clear = keeps.clear;
  turned = keeps.turned;
  barred = keeps.barred;
  barred_by = keeps.barred_by;
  authorized = known;
})

-- two changes of the rows of users are one
pub both_changes : (index mid new : AccessIndex) → mid ≡ record index { authorized = mid.authorized } → new ≡ record mid { authorized = new.authorized } → new ≡ record index { authorized = new.authorized }
both_changes index mid new first second = second ∙ ap {A = AccessIndex} {B = AccessIndex} (λ m. record m { authorized = new.authorized }) first

-- what a call that may fail leaves in both cases
pub either_way : {X E : Type 0} (r : Result X E) (P Q R : Type 0) → (P → R) → (Q → R) → OnOk r P → OnErr r Q → R
either_way (Ok x) P Q R done failed is not = done is
either_way (Err e) P Q R done failed is not = failed not

-- ---- a row is counted

-- the row has the numbers below `from` with the bit, those in the rows of such numbers, and no others
abbrev pub ReachesBelow : List BitRow → (ℕ → Bool) → ℕ → BitRow → Type 0
ReachesBelow rows bits from row = (n : ℕ) → IsTrue (has row n) ↔ ((i : ℕ) × (i < from) × IsTrue (bits i) × ((i ≡ n) ⊎ IsTrue (is_below rows i n)))

module _ (rows : List BitRow) (bits : ℕ → Bool) where
  pub reaches_first : (row : BitRow) → ((n : ℕ) → has row n ≡ false) → ReachesBelow rows bits 0 row
  reaches_first row empty n = (λ there. absurd (true≢false (sym there ∙ empty n)), λ found. absurd (omega (arith, found.1)))

  -- the next number with the bit is put in, and its row
  pub reaches_more : (from number : ℕ) (row own new : BitRow) → from ≤ number → IsTrue (bits number) → ((m : ℕ) → from ≤ m → m < number → bits m ≡ false)
      → IsTrue (has own number) → ((n : ℕ) → n ≢ number → has own n ≡ has row n) → ((n : ℕ) → has new n ≡ (has own n || is_below rows number n)) → ReachesBelow rows bits from row → ReachesBelow rows bits (number + 1) new
  reaches_more from number row own new late there between itself others put before n = (to, back)
    where
      to : IsTrue (has new n) → (i : ℕ) × (i < number + 1) × IsTrue (bits i) × ((i ≡ n) ⊎ IsTrue (is_below rows i n))
      to is = elim (or_cases (has own n) (is_below rows number n) (sym (put n) ∙ is)) [
        | inl earlier ↦ elim (cases_eq n number) [
          | inl same ↦ (number, omega arith, there, inl (sym same))
          | inr differ ↦ let found = (before n).0 (sym (others n differ) ∙ earlier) in (found.0, omega (arith, found.1, late), found.2, found.3)
        ]
        | inr below ↦ (number, omega arith, there, inr below)
      ]

      in_own : IsTrue (has row n) → IsTrue (has own n)
      in_own is = elim (cases_eq n number) [ inl same ↦ ap (has own) same ∙ itself | inr differ ↦ others n differ ∙ is ]

      back : (i : ℕ) × (i < number + 1) × IsTrue (bits i) × ((i ≡ n) ⊎ IsTrue (is_below rows i n)) → IsTrue (has new n)
      back (i, near, bit, how) = put n ∙ elim (cases_lt i from) [
        | inl low ↦ or_left (has own n) (is_below rows number n) (in_own ((before n).1 (i, low, bit, how)))
        | inr high ↦ elim (cases_eq i number) [
          | inl same ↦ elim how [
            | inl is ↦ or_left (has own n) (is_below rows number n) (ap (has own) (sym is ∙ same) ∙ itself)
            | inr below ↦ or_right (has own n) (is_below rows number n) (ap (λ k. is_below rows k n) (sym same) ∙ below)
          ]
          | inr differ ↦ absurd (true≢false (sym bit ∙ between i high (omega (arith, near, differ))))
        ]
      ]

  -- no number is left
  pub reaches_all : (from : ℕ) (row : BitRow) → ((m : ℕ) → from ≤ m → bits m ≡ false) → ReachesBelow rows bits from row → (n : ℕ) → IsTrue (has row n) ↔ IsReached rows bits n
  reaches_all from row none before n = (
    λ is. let found = (before n).0 is in (found.0, found.2, found.3),
    λ (i, bit, how). elim (cases_lt i from) [
      | inl low ↦ (before n).1 (i, low, bit, how)
      | inr high ↦ absurd (true≢false (sym bit ∙ none i high))
    ],
  )

-- the row of a user's assigned roles, and what it reaches
pub row_authorized : (index : AccessIndex) (user : Bytes) (assigned : ℕ → Bool) (row : BitRow) → ((n : ℕ) → assigned n ≡ assigned_bits index user n) → ((n : ℕ) → IsTrue (has row n) ↔ IsReached index.juniors.items assigned n) → IsAuthorized index user row
row_authorized index user assigned row bits is = reached_same index.juniors.items assigned (assigned_bits index user) (λ n. sym (bits n)) row is

-- ---- a decision by a row

-- a right row has a granted role exactly if the assigned roles reach a granted one
pub authorized_reaches : (index : AccessIndex) (user : Bytes) (assigned granted : ℕ → Bool) (row : BitRow) → ((n : ℕ) → assigned n ≡ assigned_bits index user n) → IsAuthorized index user row → (meets : Bool)
    → (IsTrue meets ↔ ((n : ℕ) × IsTrue (has row n) × IsTrue (granted n))) → IsTrue meets ↔ Reaches index.juniors.items assigned granted
authorized_reaches index user assigned granted row bits is meets decides = (to, back)
  where
    right : (n : ℕ) → IsTrue (has row n) ↔ IsReached index.juniors.items assigned n
    right = reached_same index.juniors.items (assigned_bits index user) assigned bits row is

    to : IsTrue meets → Reaches index.juniors.items assigned granted
    to meeting =
        let both = decides.0 meeting in
        let from = (right both.0).0 both.1 in
        (from.0, both.0, from.1, from.2, both.2)

    back : Reaches index.juniors.items assigned granted → IsTrue meets
    back from = decides.1 (from.1, (right from.1).1 (from.0, from.2, from.3), from.4)
