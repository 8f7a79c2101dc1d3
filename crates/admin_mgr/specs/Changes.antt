-- Lists of changes of rows, and which state they turn a state into.
use Rattle.std.specs.Prelude.{◌≡◌, Bool, false, not, ◌&&◌, ◌||◌, nat_eq, List, [], ◌∷◌, IsTrue}
use Rattle.std.specs.List.{list_any}
use Rattle.std.specs.Ordering.{eq_by_cmp}
use Rattle.rbac_sets.specs.Sets.{same_name, pair_cmp, triple_cmp, cardinality_cmp}
use Rattle.rbac_sets.specs.declared.row.Row.{Row}
use Rattle.rbac_sets.specs.declared.row.Row.TheVariants.{NameRow, PairRow, GrantRow, SetRow, LockedRow}
use Rattle.rbac_sets.specs.declared.row.Change.{Change}
use Rattle.rbac_sets.specs.declared.row.Change.TheVariants.{Put, Take}
use Rattle.admin_mgr.specs.RbacState.{RbacState}
use Rattle.admin_mgr.specs.Rows.{has_row}

-- whether the two rows are the same
abbrev pub same_row : Row → Row → Bool
same_row (NameRow k a) (NameRow l x) = nat_eq k l && same_name x a
same_row (PairRow k a b) (PairRow l x y) = nat_eq k l && eq_by_cmp pair_cmp (x, y) (a, b)
same_row (GrantRow a b c) (GrantRow x y z) = eq_by_cmp triple_cmp (x, y, z) (a, b, c)
same_row (SetRow k a m) (SetRow l x n) = nat_eq k l && eq_by_cmp cardinality_cmp (x, n) (a, m)
same_row (LockedRow a) (LockedRow x) = same_name x a
same_row _ _ = false

-- the change puts this row
abbrev pub puts : Change → Row → Bool
puts (Put row) other = same_row row other
puts (Take row) other = false

-- the change takes this row
abbrev pub takes : Change → Row → Bool
takes (Put row) other = false
takes (Take row) other = same_row row other

-- some change of the list puts the row
unfoldable pub is_put : List Change → Row → Bool
is_put changes row = list_any (λ change. puts change row) changes

-- some change of the list takes the row
unfoldable pub is_taken : List Change → Row → Bool
is_taken changes row = list_any (λ change. takes change row) changes

-- no row is put twice, and none is taken twice
abbrev pub IsOnce : List Change → Type 0
IsOnce [] = Unit {0}
IsOnce (Put row ∷ changes) = (is_put changes row ≡ false) × IsOnce changes
IsOnce (Take row ∷ changes) = (is_taken changes row ≡ false) × IsOnce changes

-- no row is taken after a row was put
abbrev pub TakesFirst : List Change → Type 0
TakesFirst [] = Unit {0}
TakesFirst (Put row ∷ changes) = ((other : Row) → is_taken changes other ≡ false) × TakesFirst changes
TakesFirst (Take row ∷ changes) = TakesFirst changes

-- The changes turn the rows of S into those of T: they take rows that S has, and then put rows that S doesn't have, each once.
pub record Turns (S : RbacState) (changes : List Change) (T : RbacState) : Type 0 where
  pub version : S.version ≡ T.version
  pub rows : (row : Row) → has_row T row ≡ (has_row S row && not (is_taken changes row) || is_put changes row)
  pub there : (row : Row) → IsTrue (is_taken changes row) → IsTrue (has_row S row)
  pub absent : (row : Row) → IsTrue (is_put changes row) → has_row S row ≡ false
  pub once : IsOnce changes
  pub takes_first : TakesFirst changes
