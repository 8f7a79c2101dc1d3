-- The reachability matrix of roles, by the numbers of the roles.
use Rattle.std.specs.Prelude.{◌≡◌, ℕ, Bool, false, List, [], map, filter, length, get_or, count_by, Some}
use Rattle.std.specs.List.{list_any, slice_get}
use Rattle.std.specs.Ordering.{is_lt}
use Rattle.rbac_sets.specs.Sets.{Bytes, Pair, Pairs, name_cmp}
use Rattle.role_order.specs.Order.{geq}

-- a row for each role, with an entry for each role: whether the first equals or dominates the second
abbrev pub Table : Type 0
Table = List (List Bool)

abbrev pub table_of : Pairs → List Bytes → Table
table_of edges roles = map (λ above. map (λ below. geq edges above below) roles) roles

-- the entry at two numbers; false if there is none
abbrev pub entry : Table → ℕ → ℕ → Bool
entry table above below = get_or (get_or table above []) below false

-- whether one of the roles with these numbers equals or dominates the role with a number
abbrev pub reaches : Table → List ℕ → ℕ → Bool
reaches table numbers below = list_any (λ number. entry table number below) numbers

-- how many roles equal or dominate the role with a number
abbrev pub count_above : Table → ℕ → ℕ
count_above table below = count_by (λ row. get_or row below false) table

-- the entry at the numbers of two roles is whether the first equals or dominates the second
abbrev pub MatchesOrder : Pairs → List Bytes → Table → Type 0
MatchesOrder edges roles table = (i j : ℕ) (above below : Bytes) → slice_get roles i ≡ Some above → slice_get roles j ≡ Some below → entry table i j ≡ geq edges above below

-- the number of a name among names in byte order: how many of them are less than it
unfoldable pub number_in : List Bytes → Bytes → ℕ
number_in names name = length (filter (λ other. is_lt (name_cmp other name)) names)

-- the numbers of the second names of pairs
abbrev pub numbers_of : List Bytes → List Pair → List ℕ
numbers_of names pairs = map (λ (pair : Pair). number_in names pair.1) pairs
