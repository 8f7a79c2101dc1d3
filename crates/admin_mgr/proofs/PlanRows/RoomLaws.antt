-- Room is used up one entry at a time.
use Rattle.std.proofs.Common.{◌≡◌, ℕ, ◌+◌, ◌≤◌, ◌<◌, Bool, true, false, nat_eq, List, [], ◌∷◌, Some, None, length, get_or, set, refl, sym, ◌∙◌, ap, subst, arith}
use Rattle.std.specs.Prelude.{if◌then◌else◌}
use Rattle.std.specs.List.{list_all}
use Rattle.std.proofs.lemmas.Bool.{eqb-true, eq-eqb, true≢false}
use Rattle.std.proofs.lemmas.List.{get_or-set_same, get_or-set_other, length-set}
use Rattle.rbac_sets.specs.declared.row.Change.{Change}
use Rattle.rbac_sets.specs.declared.row.Change.TheVariants.{Put, Take}
use Rattle.rbac_sets.specs.declared.table.Table.{Table}
use Rattle.rbac_sets.specs.declared.table.TheConstants.Table.{COUNT}
use Rattle.rbac_sets.specs.Table.{number_of, is_number}
use Rattle.admin_mgr.specs.RowUpdates.{table_put, puts_at, puts_of, HasRoom}
use Rattle.admin_mgr.specs.private.OneRow.{UsesRoom}
use Rattle.admin_mgr.specs.private.PlanChanges.{is_take}

-- the room for the table of this number
abbrev pub room_of : List (ℕ × ℕ) → ℕ → ℕ
room_of [] number = 0
room_of (table ∷ tables) number = if nat_eq table.0 number then table.1 else room_of tables number

-- the list with another room for that table
abbrev pub with_room : List (ℕ × ℕ) → ℕ → ℕ → List (ℕ × ℕ)
with_room [] number room = []
with_room (table ∷ tables) number room = if nat_eq table.0 number then (table.0, room) ∷ tables else table ∷ with_room tables number room

-- a change may use no room
pub spends_none : (change : Change) (rooms : List (ℕ × ℕ)) → UsesRoom change rooms rooms
spends_none change [] = tt
spends_none change (table ∷ tables) = (refl, omega arith, spends_none change tables)

-- a change of one table uses the room of at most one entry
pub spends_at : (change : Change) (rooms : List (ℕ × ℕ)) (number room : ℕ) → room_of rooms number ≤ room + (if puts_at number change then 1 else 0) → UsesRoom change rooms (with_room rooms number room)
spends_at change [] number room enough = tt
spends_at change (table ∷ tables) number room enough = by (nat_eq table.0 number) refl (spends_at change tables number room) enough
  where
    by : (b : Bool) → nat_eq table.0 number ≡ b
        → (room_of tables number ≤ room + (if puts_at number change then 1 else 0) → UsesRoom change tables (with_room tables number room))
        → (if b then table.1 else room_of tables number) ≤ room + (if puts_at number change then 1 else 0)
        → UsesRoom change (table ∷ tables) (if b then (table.0, room) ∷ tables else table ∷ with_room tables number room)
    by true same later enough = (refl, subst (λ n. table.1 ≤ room + (if puts_at n change then 1 else 0)) (sym (eqb-true table.0 number same)) enough, spends_none change tables)
    by false other later enough = (refl, omega arith, later enough)

-- with room for n entries, and for one more if the test passes, room for n is left after that one
one_less : (b : Bool) (n old new : ℕ) → (if b then 1 else 0) + n ≤ old → old ≤ new + (if b then 1 else 0) → n ≤ new
one_less true n old new fits enough = omega (arith, fits, enough)
one_less false n old new fits enough = omega (arith, fits, enough)

-- if there is room for a list of changes, there is room for the others after the first
pub room_left : (change : Change) (changes : List Change) (olds news : List (ℕ × ℕ)) → HasRoom olds (change ∷ changes) → UsesRoom change olds news → HasRoom news changes
room_left change changes [] [] fits spends = tt
room_left change changes [] (new ∷ news) fits spends = absurd spends
room_left change changes (old ∷ olds) [] fits spends = absurd spends
room_left change changes (old ∷ olds) (new ∷ news) fits spends = (
  subst (λ number. puts_of number changes ≤ new.1) spends.0 (one_less (puts_at old.0 change) (puts_of old.0 changes) old.1 new.1 fits.0 spends.1),
  room_left change changes olds news fits.1 spends.2,
)

-- and there is room for the first alone
pub room_first : (change : Change) (changes : List Change) (rooms : List (ℕ × ℕ)) → HasRoom rooms (change ∷ changes) → HasRoom rooms (change ∷ [])
room_first change changes [] fits = tt
room_first change changes (room ∷ rooms) fits = (omega (arith, fits.0), room_first change changes rooms fits.1)

-- changes that only take rows put none into any table
puts_none : (changes : List Change) (number : ℕ) → list_all is_take changes ≡ true → puts_of number changes ≡ 0
puts_none [] number takes = refl
puts_none (Put row ∷ changes) number takes = absurd (true≢false (sym takes))
puts_none (Take row ∷ changes) number takes = omega (arith, puts_none changes number takes)

-- so they need no room
pub takes_need_none : (changes : List Change) (rooms : List (ℕ × ℕ)) → list_all is_take changes ≡ true → HasRoom rooms changes
takes_need_none changes [] takes = tt
takes_need_none changes (table ∷ tables) takes = (omega (arith, puts_none changes table.0 takes), takes_need_none changes tables takes)

-- ---- how many rows are inserted into each table

-- 1 if the test passes, otherwise 0
abbrev one_if : Bool → ℕ
one_if b = if b then 1 else 0

one_if-le : (b : Bool) → one_if b ≤ 1
one_if-le true = omega arith
one_if-le false = omega arith

-- a list of numbers with one more at one index
one_more_at : (counts : List ℕ) (m n : ℕ) → m < length counts → get_or (set counts m (get_or counts m 0 + 1)) n 0 ≡ get_or counts n 0 + one_if (nat_eq m n)
one_more_at counts m n within = by (nat_eq m n) refl
  where
    by : (b : Bool) → nat_eq m n ≡ b → get_or (set counts m (get_or counts m 0 + 1)) n 0 ≡ get_or counts n 0 + one_if b
    by true same = subst (λ k. get_or (set counts m (get_or counts m 0 + 1)) k 0 ≡ get_or counts k 0 + 1) (eqb-true m n same) (get_or-set_same counts m (get_or counts m 0 + 1) 0 within)
    by false other = get_or-set_other counts m n (get_or counts m 0 + 1) 0 (λ same. true≢false (sym (eq-eqb m n (sym same)) ∙ other)) ∙ omega arith

-- the rows that the changes so far insert are counted by table, and the rest is still to be counted
pub record AreCounted (counts : List ℕ) (seen : ℕ) (rest changes : List Change) : Type 0 where
  pub size : length counts ≡ COUNT
  pub counted : (n : ℕ) → n < COUNT → get_or counts n 0 + puts_of n rest ≡ puts_of n changes
  pub bounded : (n : ℕ) → get_or counts n 0 ≤ seen

module _ (counts : List ℕ) (seen : ℕ) (change : Change) (rest changes : List Change) (before : AreCounted counts seen (change ∷ rest) changes) where
  -- a change that inserts nothing is passed over
  pub counted_none : table_put change ≡ None → AreCounted counts (seen + 1) rest changes
  counted_none none = record {
    size = before.size;
    counted = λ n small. (let at : one_if (is_number n (table_put change)) ≡ 0 = ap (λ table. one_if (is_number n table)) none in omega (arith, before.counted n small, at));
    bounded = λ n. omega (arith, before.bounded n);
  }

  -- an insertion is counted at its table
  pub counted_some : (m : ℕ) (table : Table) → table_put change ≡ Some table → m ≡ number_of table → m < COUNT → AreCounted (set counts m (get_or counts m 0 + 1)) (seen + 1) rest changes
  counted_some m table some is small = record {
    size = length-set counts m _ ∙ before.size;
    counted = λ n within. omega (arith, before.counted n within, at n, one n);
    bounded = λ n. omega (arith, before.bounded n, one n, one_if-le (nat_eq m n));
  }
    where
      at : (n : ℕ) → one_if (is_number n (table_put change)) ≡ one_if (nat_eq m n)
      at n = ap (λ t. one_if (is_number n t)) some ∙ ap (λ k. one_if (nat_eq k n)) (sym is)

      one : (n : ℕ) → get_or (set counts m (get_or counts m 0 + 1)) n 0 ≡ get_or counts n 0 + one_if (nat_eq m n)
      one n = one_more_at counts m n (subst (λ size. m < size) (sym before.size) small)
