-- Finite sets of names, of pairs of names and of triples, in byte order, the first part first.
--     empty, contains, insert, remove, retain, len, union, difference     as of Rust's `BTreeSet`
--     members s                        the members in byte order
--     any p s, all p s, count p s      whether some or all members pass the test p, and how many do
--     image f s                        the values of f at the members, as a set
--     firsts s y, seconds s x          the first names of the pairs that end in y; the second names of those that begin with x
use Rattle.std.specs.Prelude.{◌≡◌, refl, ℕ, Bool, true, false, not, List, [], ◌∷◌, count_by}
use Rattle.std.specs.Prelude.{map as list_map}
use Rattle.std.specs.List.{list_any, list_all}
use Rattle.std.specs.declared.cmp.Ordering.{Ordering}
use Rattle.std.specs.Ordering.{nat_cmp, ordering_then, eq_by_cmp}
use Rattle.std.specs.Cmp.Lexicographic.{slice_cmp}
use Rattle.std.specs.FinMap as map
use Rattle.std.specs.FinSet.{FinSet}
use base.Stored.{coded_unit}
use Rattle.std.specs.Coded.{Coded, coded_ℕ, coded_list, coded×, code_by}

-- a set is stored as std's finite map, with the unit value at each key
abbrev pub coded_set : {K : Type 0} {R : K → K → Ordering} → Coded K → Coded (FinSet R)
coded_set k = map.code k coded_unit

-- a name, as its bytes
abbrev pub Bytes : Type 0
Bytes = List ℕ

abbrev pub Pair : Type 0
Pair = Bytes × Bytes

abbrev pub Triple : Type 0
Triple = Bytes × Bytes × Bytes

-- a separation of duty set with its cardinality
abbrev pub Cardinality : Type 0
Cardinality = Bytes × ℕ

-- byte order of names; pairs and triples are ordered by their first part first
abbrev pub name_cmp : Bytes → Bytes → Ordering
name_cmp = slice_cmp nat_cmp

abbrev pub pair_cmp : Pair → Pair → Ordering
pair_cmp a b = ordering_then (name_cmp a.0 b.0) (name_cmp a.1 b.1)

abbrev pub triple_cmp : Triple → Triple → Ordering
triple_cmp a b = ordering_then (ordering_then (name_cmp a.0 b.0) (name_cmp a.1 b.1)) (name_cmp a.2 b.2)

abbrev pub cardinality_cmp : Cardinality → Cardinality → Ordering
cardinality_cmp a b = ordering_then (name_cmp a.0 b.0) (nat_cmp a.1 b.1)

abbrev pub Names : Type 0
Names = FinSet name_cmp

abbrev pub Pairs : Type 0
Pairs = FinSet pair_cmp

abbrev pub Triples : Type 0
Triples = FinSet triple_cmp

abbrev pub Cardinalities : Type 0
Cardinalities = FinSet cardinality_cmp

module _ {K : Type 0} {R : K → K → Ordering} where
  unfoldable pub empty : FinSet R
  empty = map.empty

  unfoldable pub contains : FinSet R → K → Bool
  contains s x = map.contains_key s x

  unfoldable pub insert : FinSet R → K → FinSet R
  insert s x = map.insert s x tt

  unfoldable pub remove : FinSet R → K → FinSet R
  remove s x = map.remove s x

  -- the members that pass the test
  unfoldable pub retain : FinSet R → (K → Bool) → FinSet R
  retain s test = map.retain_keys s test

  unfoldable pub len : FinSet R → ℕ
  len s = map.len s

  -- the members in byte order
  unfoldable pub members : FinSet R → List K
  members s = map.keys s

  unfoldable pub from_list : List K → FinSet R
  from_list [] = empty
  from_list (x ∷ xs) = insert (from_list xs) x

  unfoldable pub insert_all : FinSet R → List K → FinSet R
  insert_all s [] = s
  insert_all s (x ∷ xs) = insert (insert_all s xs) x

  unfoldable pub union : FinSet R → FinSet R → FinSet R
  union s t = insert_all s (members t)

  -- the members of s that are not members of t
  unfoldable pub difference : FinSet R → FinSet R → FinSet R
  difference s t = retain s (λ x. not (contains t x))

  -- no member of s is a member of t
  abbrev pub IsDisjoint : FinSet R → FinSet R → Type 0
  IsDisjoint s t = (x : K) → contains s x ≡ true → contains t x ≡ false

  -- some member passes the test
  unfoldable pub any : (K → Bool) → FinSet R → Bool
  any test s = list_any test (members s)

  -- each member passes the test
  unfoldable pub all : (K → Bool) → FinSet R → Bool
  all test s = list_all test (members s)

  -- how many members pass the test
  unfoldable pub count : (K → Bool) → FinSet R → ℕ
  count test s = count_by test (members s)

module _ {K J : Type 0} {R : K → K → Ordering} {Q : J → J → Ordering} where
  -- the values of f at the members
  unfoldable pub image : (K → J) → FinSet R → FinSet Q
  image f s = from_list (list_map f (members s))

-- whether two names are equal
abbrev pub same_name : Bytes → Bytes → Bool
same_name = eq_by_cmp name_cmp

-- the first names of the pairs that end in a name, and the second names of those that begin with it
unfoldable pub firsts : Pairs → Bytes → Names
firsts pairs second = image (λ (pair : Pair). pair.0) (retain pairs (λ pair. same_name pair.1 second))

unfoldable pub seconds : Pairs → Bytes → Names
seconds pairs first = image (λ (pair : Pair). pair.1) (retain pairs (λ pair. same_name pair.0 first))

abbrev pub coded_name : Coded Bytes
coded_name = coded_list coded_ℕ

abbrev pub coded_pair : Coded Pair
coded_pair = coded× coded_name coded_name

abbrev pub coded_triple : Coded Triple
coded_triple = code_by (Bytes × Pair) (coded× coded_name coded_pair) (λ t. (t.0, (t.1, t.2))) (λ p. (p.0, p.1.0, p.1.1)) (λ _. refl)

abbrev pub coded_cardinality : Coded Cardinality
coded_cardinality = coded× coded_name coded_ℕ
