-- The numbers of the kinds of rows, as the tables of an office have them.
use Rattle.std.specs.Prelude.{ℕ}

-- ---- of names

abbrev pub user_kind : ℕ
user_kind = 1

abbrev pub role_kind : ℕ
role_kind = 2

abbrev pub object_kind : ℕ
object_kind = 3

-- ---- of pairs

abbrev pub permission_kind : ℕ
permission_kind = 1

abbrev pub assignment_kind : ℕ
assignment_kind = 2

abbrev pub inheritance_kind : ℕ
inheritance_kind = 3

abbrev pub closure_pair_kind : ℕ
closure_pair_kind = 4

abbrev pub static_member_kind : ℕ
static_member_kind = 5

abbrev pub dynamic_member_kind : ℕ
dynamic_member_kind = 6

abbrev pub session_kind : ℕ
session_kind = 7

abbrev pub activated_role_kind : ℕ
activated_role_kind = 8

-- ---- of cardinalities

abbrev pub static_cardinality_kind : ℕ
static_cardinality_kind = 1

abbrev pub dynamic_cardinality_kind : ℕ
dynamic_cardinality_kind = 2
