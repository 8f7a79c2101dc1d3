-- How the barred roles are found.
use Rattle.std.specs.Prelude.{◌≡◌, ◌&&◌, ◌||◌, ℕ, zero, suc, Bool, true, false, not, nat_eq, nat_lt, count_by, List, Option, Some, None, IfSome}
use Rattle.bit_rows.specs.declared.row.BitRow.{BitRow}
use Rattle.bit_rows.specs.Rows.{has}
use Rattle.rbac_sets.specs.Sets.{Bytes, Pair, same_name}
use Rattle.rbac_sets.specs.declared.row.Row.{Row}
use Rattle.rbac_sets.specs.declared.row.Row.TheVariants.{PairRow, SetRow}
use Rattle.rbac_sets.specs.RowKinds.{closure_pair_kind, dynamic_member_kind, dynamic_cardinality_kind}
use Rattle.rbac_sets.specs.declared.row.Change.{Change}
use Rattle.rbac_sets.specs.declared.row.Change.TheVariants.{Put, Take}
use Rattle.admin_mgr.specs.RbacState.{RbacState}
use Rattle.admin_mgr.specs.UserAccess.{stands_alone}
use Rattle.access_index.specs.Following.{Follow}
use Rattle.access_index.specs.Index.{is_below, is_used, number_of, row_by_set}
use Rattle.access_index.specs.declared.index.AccessIndex.{AccessIndex}

-- the row has the numbers of the roles that violate a dynamic set of the state alone
abbrev pub AreBarred : AccessIndex → RbacState → BitRow → Type 0
AreBarred index S row = Follow (Unit {0}) (number_of index) (is_used index) (λ _. has row) (λ _ role. not (stands_alone S role))

-- whether the role of the second number, if there is one, is that of the first, or a junior of it
abbrev pub is_member : AccessIndex → ℕ → Option ℕ → Bool
is_member index n None = false
is_member index n (Some number) = nat_eq n number || is_below index.seniors.items number n

-- whether the role of the number and its juniors are `count` or more of the members, which are pairs (set, role)
abbrev pub has_members : AccessIndex → ℕ → List Pair → ℕ → Bool
has_members index n members count = not (nat_lt (count_by (λ (member : Pair). is_member index n (number_of index member.1)) members) count)

-- whether a number is in the first levels, as many as are given
abbrev pub at_least : List BitRow → ℕ → ℕ → Bool
at_least levels zero n = true
at_least levels (suc level) n = is_below levels level n

-- whether the row is a closure pair
abbrev pub is_of_closure : Row → Bool
is_of_closure (PairRow kind a b) = nat_eq kind closure_pair_kind
is_of_closure _ = false

-- whether the row is a closure pair, or one of a dynamic separation of duty set
abbrev pub can_bar : Row → Bool
can_bar (PairRow kind a b) = nat_eq kind closure_pair_kind || nat_eq kind dynamic_member_kind
can_bar (SetRow kind a n) = nat_eq kind dynamic_cardinality_kind
can_bar _ = false

-- whether the row is a closure pair, or one of the dynamic separation of duty set of this name
abbrev pub can_bar_by : Bytes → Row → Bool
can_bar_by set (PairRow kind a b) = nat_eq kind closure_pair_kind || (nat_eq kind dynamic_member_kind && same_name a set)
can_bar_by set (SetRow kind a n) = nat_eq kind dynamic_cardinality_kind && same_name a set
can_bar_by set _ = false

-- the second index knows which roles a set bars only if the first does, and the set isn't one of these
abbrev pub Forgets : AccessIndex → AccessIndex → (Bytes → Bool) → Type 0
Forgets index new forgotten = (set : Bytes) → IfSome (row_by_set new set) (λ row. (row_by_set index set ≡ Some row) × (forgotten set ≡ false))

-- the row that the change puts or takes
abbrev pub changed_row : Change → Row
changed_row (Put row) = row
changed_row (Take row) = row
