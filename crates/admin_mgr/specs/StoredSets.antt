-- The sets that stored rows make.
use Rattle.std.specs.Prelude.{◌≡◌, refl, ℕ, Bool, false, not, ◌&&◌, nat_eq, is_some, if◌then◌else◌, List, [], ◌∷◌}
use Rattle.std.specs.List.{list_any}
use Rattle.std.specs.Coded.{Coded, coded×, code_by}
use Rattle.rbac_sets.specs.Sets.{Bytes, Pair, Triple, Cardinality, Pairs, coded_set, coded_pair, from_list, same_name}
use Rattle.rbac_sets.specs.declared.row.Row.{Row}
use Rattle.rbac_sets.specs.declared.row.Row.TheVariants.{NameRow, PairRow, GrantRow, SetRow, LockedRow}
use Rattle.rbac_sets.specs.RowKinds.{user_kind, role_kind, object_kind, permission_kind, assignment_kind, inheritance_kind, closure_pair_kind, static_member_kind, dynamic_member_kind, session_kind, activated_role_kind, static_cardinality_kind, dynamic_cardinality_kind}
use Rattle.rbac_sets.specs.Table.{table_of}
use Rattle.admin_mgr.specs.RbacState.{RbacState, coded_state}
use Rattle.admin_mgr.specs.Changes.{same_row}

-- the row is one of these
abbrev pub is_among : List Row → Row → Bool
is_among rows row = list_any (λ (other : Row). same_row other row) rows

-- an office of this version may have the row: there is a table of its kind, and version 1 has no locks
abbrev pub is_known : ℕ → Row → Bool
is_known version (LockedRow _) = not (nat_eq version 1)
is_known version row = is_some (table_of row)

-- Whether two rows have one key. The key of a set's cardinality is its kind and name, so that a set has one cardinality; the
-- key of any other row is the whole row.
abbrev pub same_key : Row → Row → Bool
same_key (SetRow kind name _) (SetRow other_kind other_name _) = nat_eq kind other_kind && same_name other_name name
same_key row other = same_row row other

-- no two of the rows have one key
abbrev pub HaveKeysOnce : List Row → Type 0
HaveKeysOnce [] = Unit {0}
HaveKeysOnce (row ∷ rows) = (list_any (λ (other : Row). same_key row other) rows ≡ false) × HaveKeysOnce rows

-- ---- the entries of the rows of one kind, in their order

abbrev pub names_of : ℕ → List Row → List Bytes
names_of kind [] = []
names_of kind (NameRow k a ∷ rows) = if nat_eq k kind then a ∷ names_of kind rows else names_of kind rows
names_of kind (_ ∷ rows) = names_of kind rows

abbrev pub pairs_of : ℕ → List Row → List Pair
pairs_of kind [] = []
pairs_of kind (PairRow k a b ∷ rows) = if nat_eq k kind then (a, b) ∷ pairs_of kind rows else pairs_of kind rows
pairs_of kind (_ ∷ rows) = pairs_of kind rows

abbrev pub grants_of : List Row → List Triple
grants_of [] = []
grants_of (GrantRow a b c ∷ rows) = (a, b, c) ∷ grants_of rows
grants_of (_ ∷ rows) = grants_of rows

abbrev pub cardinalities_of : ℕ → List Row → List Cardinality
cardinalities_of kind [] = []
cardinalities_of kind (SetRow k a n ∷ rows) = if nat_eq k kind then (a, n) ∷ cardinalities_of kind rows else cardinalities_of kind rows
cardinalities_of kind (_ ∷ rows) = cardinalities_of kind rows

abbrev pub locks_of : List Row → List Bytes
locks_of [] = []
locks_of (LockedRow a ∷ rows) = a ∷ locks_of rows
locks_of (_ ∷ rows) = locks_of rows

-- ---- the sets

-- the sets and relations that rows make, and the closure pairs that are stored beside the edges of the role hierarchy
pub record StoredSets : Type 0 where
  pub facts : RbacState
  pub pairs : Pairs

abbrev pub coded_stored_sets : Coded StoredSets
coded_stored_sets =
    code_by (RbacState × Pairs) (coded× coded_state (coded_set coded_pair)) (λ g. (g.facts, g.pairs)) (λ p. record { facts = p.0; pairs = p.1 }) (λ _. refl)

-- the sets that the rows of an office of this version make
unfoldable pub gathered : ℕ → List Row → StoredSets
gathered version rows = record {
  facts = record {
    version = version;
    users = from_list (names_of user_kind rows);
    locked = from_list (locks_of rows);
    roles = from_list (names_of role_kind rows);
    objects = from_list (names_of object_kind rows);
    permissions = from_list (pairs_of permission_kind rows);
    assignments = from_list (pairs_of assignment_kind rows);
    grants = from_list (grants_of rows);
    edges = from_list (pairs_of inheritance_kind rows);
    sessions = from_list (pairs_of session_kind rows);
    active = from_list (pairs_of activated_role_kind rows);
    ssd = record { members = from_list (pairs_of static_member_kind rows); cardinalities = from_list (cardinalities_of static_cardinality_kind rows) };
    dsd = record { members = from_list (pairs_of dynamic_member_kind rows); cardinalities = from_list (cardinalities_of dynamic_cardinality_kind rows) };
  };
  pairs = from_list (pairs_of closure_pair_kind rows);
}
