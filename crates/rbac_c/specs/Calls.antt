-- What a call from C returns and leaves.
use Rattle.std.specs.Prelude.{◌≡◌, ◌⊎◌, ◌<◌, ◌≤◌, ◌+◌, ◌^◌, ◌-ℤ◌, ℤ, pos, Bool, true, false, ℕ, List, [], ◌∷◌, ◌++◌, length, map, drop, Option, Some, None}
use Rattle.std.specs.List.{flat_map}
use Rattle.rbac_sets.specs.Refusal.{code_of}
use Rattle.rbac_sets.specs.Table.{number_of, relation_count}
use Rattle.rbac_sets.specs.declared.refusal.Refusal.{Refusal}
use Rattle.rbac_sets.specs.declared.table.Table.{Table}
use Rattle.admin_mgr.specs.RowChecks.{IsStateOf, RefusesRows}
use Rattle.role_lines.specs.Decision.{Decides, DecidesUser, Refuses, RefusesUser}
use Rattle.role_lines.specs.OfficeInMemory.{StopsAt, OfficeInMemory, after, starting, with_row, without_rows}
use Rattle.role_lines.specs.StoredRow.{HasNames, IsRowAt, Parts, names_in, row_with}
use Rattle.rbac_c.specs.Results.{done, bad_name, no_memory, closed, too_short, absent}
use Rattle.rbac_c.specs.declared.calls.RowLengths.{RowLengths}

-- a list of which these come first, and what was after them stays
abbrev pub over : {A : Type 0} → List A → List A → List A
over written before = written ++ drop (length written) before

-- the text is written to the beginning of the buffer, and what was after it stays; or the text is longer than the buffer, which stays
abbrev pub Writes : List ℕ → (before out : List ℕ) → ℕ → Type 0
Writes text before out code = ((code ≡ done) × (out ≡ over text before)) ⊎ ((code ≡ too_short) × ((out ≡ before) × (length out < length text)))

-- the text is written, if it is short enough, and so is its length
abbrev pub Copies : List ℕ → (before out : List ℕ) → ℕ → ℕ → Type 0
Copies text before out count code = (count ≡ length text) × Writes text before out code

-- The handle has an office, which answers the line, and the answer is copied. If an allocation failed, the line was done, or nothing
-- was, and the office keeps no answer.
abbrev pub AnswersIn : OfficeInMemory → OfficeInMemory → List ℕ → (before out : List ℕ) → ℕ → ℕ → Type 0
AnswersIn old new line before out count code =
    ((new ≡ after old line) × Copies new.kept before out count code)
    ⊎ ((code ≡ no_memory) × ((count ≡ 0) × ((out ≡ before) × StopsAt old line new)))

-- the same for a handle: one without an office has none afterwards
abbrev pub AnswersCall : Option OfficeInMemory → Option OfficeInMemory → List ℕ → (before out : List ℕ) → ℕ → ℕ → Type 0
AnswersCall None new line before out count code = (new ≡ None) × ((count ≡ 0) × ((code ≡ closed) × (out ≡ before)))
AnswersCall (Some old) None line before out count code = ⊥
AnswersCall (Some old) (Some new) line before out count code = AnswersIn old new line before out count code

-- the answer that the office keeps is copied
abbrev pub CopiesKept : Option OfficeInMemory → (before out : List ℕ) → ℕ → ℕ → Type 0
CopiesKept None before out count code = (count ≡ 0) × ((code ≡ closed) × (out ≡ before))
CopiesKept (Some office) before out count code = Copies office.kept before out count code

-- the decision about a holder, which is a user or a session
abbrev pub IsDecided : OfficeInMemory → (of_user : Bool) → List ℕ → List ℕ → List ℕ → Bool → Type 0
IsDecided office true user operation object access = DecidesUser office.facts user operation object access
IsDecided office false session operation object access = Decides office.facts session operation object access

-- there is no decision about the holder, for this reason
abbrev pub IsRefused : OfficeInMemory → (of_user : Bool) → List ℕ → List ℕ → List ℕ → Refusal → Type 0
IsRefused office true user operation object refusal = RefusesUser office.facts user operation object refusal
IsRefused office false session operation object refusal = Refuses office.facts session operation object refusal

-- the number that stands for a decision about a holder: 1 or 0, or minus the code of the refusal
abbrev pub Decided : OfficeInMemory → (of_user : Bool) → List ℕ → List ℕ → List ℕ → ℤ → Type 0
Decided office of_user holder operation object number =
    (IsDecided office of_user holder operation object true × (number ≡ pos 1))
    ⊎ ((IsDecided office of_user holder operation object false × (number ≡ pos 0))
    ⊎ ((refusal : Refusal) × (IsRefused office of_user holder operation object refusal × (number ≡ pos 0 -ℤ pos (code_of refusal)))))

-- ---- rows

-- the lengths of the names of a row, and its number
abbrev pub lengths_of : Parts → RowLengths
lengths_of row = record { first = length row.first; second = length row.second; third = length row.third; number = row.number }

-- the table has no row at this place, or there is no such table
abbrev pub IsAbsent : OfficeInMemory → ℕ → ℕ → Type 0
IsAbsent office table index = (relation_count ≤ table) ⊎ ((t : Table) × ((number_of t ≡ table) × IsRowAt office.facts t index None))

-- this is the row at this place of the table
abbrev pub HasRow : OfficeInMemory → ℕ → ℕ → Parts → Type 0
HasRow office table index row = (t : Table) × ((number_of t ≡ table) × IsRowAt office.facts t index (Some row))

-- what a caller lends for names, and for their lengths: of one row, or of each
abbrev pub Buffers : Type 0 → Type 0
Buffers L = List ℕ × L

-- the names of the row are written, one after the other, if they are short enough, and so are their lengths
abbrev pub CopiesParts : Parts → (before now : Buffers RowLengths) → ℕ → Type 0
CopiesParts row before now code = (now.1 ≡ lengths_of row) × Writes (names_in row) before.0 now.0 code

-- a row is copied, or there is none
abbrev pub CopiesRow : Option OfficeInMemory → ℕ → ℕ → (before now : Buffers RowLengths) → ℕ → Type 0
CopiesRow None table index before now code = (code ≡ closed) × (now ≡ before)
CopiesRow (Some office) table index before now code =
    ((row : Parts) × (HasRow office table index row × CopiesParts row before now code))
    ⊎ ((code ≡ absent) × ((now ≡ before) × IsAbsent office table index))

-- these are the rows from this place on, of those that `is_at` has at its places
abbrev pub AreRowsAt : (is_at : ℕ → Option Parts → Type 0) → ℕ → List Parts → Type 0
AreRowsAt is_at index [] = Unit {0}
AreRowsAt is_at index (row ∷ rows) = is_at index (Some row) × AreRowsAt is_at (index + 1) rows

-- there is no row at this place, also if no index reaches it
abbrev pub IsPast : (is_at : ℕ → Option Parts → Type 0) → ℕ → Type 0
IsPast is_at index = (2 ^ 64 ≤ index) ⊎ is_at index None

-- These rows, from this place on, are copied: their names, one after the other, and their lengths. What is after them in both buffers
-- stays. There is no further row, or no room for its names or for its lengths.
pub record CopiesFrom (is_at : ℕ → Option Parts → Type 0) (index : ℕ) (before now : Buffers (List RowLengths)) (rows : List Parts) : Type 0 where
  pub are : AreRowsAt is_at index rows
  pub names : now.0 ≡ over (flat_map names_in rows) before.0
  pub lengths_are : now.1 ≡ over (map lengths_of rows) before.1
  pub last : (length rows ≡ length now.1) ⊎ (IsPast is_at (index + length rows)
      ⊎ ((row : Parts) × (is_at (index + length rows) (Some row) × (length now.0 < length (flat_map names_in rows) + length (names_in row)))))

-- so many rows are copied
abbrev pub CopiesSome : (is_at : ℕ → Option Parts → Type 0) → ℕ → (before now : Buffers (List RowLengths)) → ℕ → Type 0
CopiesSome is_at index before now count = (rows : List Parts) × ((count ≡ length rows) × CopiesFrom is_at index before now rows)

-- so many rows of the table are copied, or there is no such table
abbrev pub CopiesRows : Option OfficeInMemory → ℕ → ℕ → (before now : Buffers (List RowLengths)) → ℕ → ℕ → Type 0
CopiesRows None table index before now count code = (count ≡ 0) × ((code ≡ closed) × (now ≡ before))
CopiesRows (Some office) table index before now count code =
    ((t : Table) × ((number_of t ≡ table) × ((code ≡ done) × CopiesSome (IsRowAt office.facts t) index before now count)))
    ⊎ ((count ≡ 0) × ((code ≡ absent) × ((now ≡ before) × (relation_count ≤ table))))

-- the row is added, or the office is the same: one of the row's names isn't a name, there is no such table, or an allocation failed
abbrev pub AddsRowIn : OfficeInMemory → OfficeInMemory → ℕ → Parts → ℕ → Type 0
AddsRowIn old new table row code =
    ((t : Table) × ((number_of t ≡ table) × ((new ≡ with_row old (row_with t row)) × (code ≡ done))))
    ⊎ ((new ≡ old) × (((t : Table) × ((number_of t ≡ table) × ((code ≡ bad_name) × ¬ (HasNames t row))))
    ⊎ (((code ≡ absent) × (relation_count ≤ table))
    ⊎ (code ≡ no_memory))))

abbrev pub AddsRow : Option OfficeInMemory → Option OfficeInMemory → ℕ → Parts → ℕ → Type 0
AddsRow None new table row code = (new ≡ None) × (code ≡ closed)
AddsRow (Some old) None table row code = ⊥
AddsRow (Some old) (Some new) table row code = AddsRowIn old new table row code

-- the office starts again with the state of the added rows; or they are refused, and the office stays the same but for them
abbrev pub LoadsIn : OfficeInMemory → OfficeInMemory → ℕ → ℕ → Type 0
LoadsIn old new revision code =
    ((code ≡ done) × ((new ≡ starting new.facts old.seed revision) × IsStateOf 2 old.rows new.facts))
    ⊎ ((refusal : Refusal) × ((code ≡ code_of refusal) × ((new ≡ without_rows old) × RefusesRows 2 old.rows refusal)))

abbrev pub Loads : Option OfficeInMemory → Option OfficeInMemory → ℕ → ℕ → Type 0
Loads None new revision code = (new ≡ None) × (code ≡ closed)
Loads (Some old) None revision code = ⊥
Loads (Some old) (Some new) revision code = LoadsIn old new revision code
