-- Tables that have the rows of a good state pass checks 1 and 2, and are read as that state alone.
use Rattle.std.proofs.Common.{◌≢◌, ◌≤◌, ◌≡◌, ◌⊎◌, inl, inr, ℕ, pos, ◌<◌, ◌^◌, List, [], ◌∷◌, ◌++◌, map, filter, codes, Bool, true, false, ◌&&◌, if◌then◌else◌, Option, Some, None, is_some, IsSome, IsTrue, refl, sym, ap, subst, ◌∙◌, arith}
use Rattle.std.specs.Prelude.{nat_eq, nat_le}
use Rattle.std.specs.List.{list_all, flat_map, AllByRecursion}
use Rattle.std.specs.List.Sorted.{IsPermutation}
use Rattle.std.proofs.lemmas.Bool.{cases_Bool, and_parts, or_left, or_right, eqb-true, lt-ltb}
use Rattle.std.proofs.lemmas.List.Sorted.{IsPermutation-map, IsPermutation-sym, IsPermutation-trans, IsPermutation-refl, IsPermutation-cons, IsPermutation-append, IsPermutation-middle}
use Rattle.rbac_sets.specs.Name.{is_name}
use Rattle.rbac_sets.specs.declared.row.Row.{Row}
use Rattle.rbac_sets.specs.declared.row.Row.TheVariants.{NameRow, PairRow, GrantRow, SetRow, LockedRow}
use Rattle.rbac_sets.specs.declared.refusal.Refusal.{Refusal}
use Rattle.rbac_sets.specs.declared.refusal.Refusal.TheVariants.{Memory}
use Rattle.sqlite.specs.Order as sql
use Rattle.sqlite.specs.Effect.{Database}
use Rattle.sqlite.proofs.Callers.{one_permutation}
use Rattle.admin_mgr.specs.RbacState.{RbacState}
use Rattle.admin_mgr.specs.Good.{IsGood}
use Rattle.rbac_sets.specs.Kind.{limit_of}
use Rattle.rbac_sets.specs.Named.{is_named}
use Rattle.rbac_sets.specs.Table.{table_of as relation_of}
use Rattle.rbac_sets.specs.Sets.{contains, len}
use Rattle.rbac_sets.specs.declared.kind.Kind.TheVariants.{Member}
use Rattle.admin_mgr.specs.StateNames as names
use Rattle.admin_mgr.specs.Rows.{has_row}
use Rattle.admin_mgr.specs.RbacState.{Separation, members_of}
use Rattle.admin_mgr.specs.Good.{IsSeparation}
use Rattle.admin_mgr.specs.Changes.{same_row}
use Rattle.admin_mgr.specs.StoredSets.{is_known, is_among}
use Rattle.admin_mgr.proofs.PlanRows.CommitLaws.{same_row-self}
use Rattle.admin_mgr.specs.RowChecks.{AreRowsOf}
use Rattle.admin_mgr.proofs.StoredRows.AcceptLaws.{readable_of_good}
use Rattle.admin_mgr.proofs.PlanRows.RowLaws.{rows_determine}
use Rattle.role_tables.specs.OfficeTables.{StoredTable, Meta, Names, Pairs, Grants, Sets, Locks, meta_row, cells, table_of, is_wanted, row_tables}
use Rattle.role_tables.specs.StoredState.{stored, is_of, cells_of, stored_rows, HoldsState}
use Rattle.role_tables.specs.TableContents.{TableContents, is_well_typed, has_names, row_in, contents_of}
use Rattle.role_tables.specs.OpeningChecks.{values, versions, is_known_version, HasCommonTables, HasKnownVersions, version_in, HasLocks, IsOffice, AreWellTyped, HaveValidNames, rows_at, rows_in_all, office_rows, RefusesContents, IsStateOfContents, HasRowsOf, GoodContentsAreRead, StateIsUnique}
use Rattle.role_tables.proofs.OfficeTables.Changes.{same_code}
use Rattle.role_tables.proofs.OfficeTables.Looking.{rows_wanted}
use Rattle.role_tables.proofs.Reading.Held.{holds_found}
use Rattle.role_tables.proofs.Reading.MetaRows.{list_all-IsPermutation}
use Rattle.role_tables.proofs.Reading.Refused.{found_refused}
use Rattle.role_tables.proofs.StoredRows.Once.{rows_of_same}

and_assoc : (a b c : Bool) → ((a && b) && c) ≡ (a && (b && c))
and_assoc true b c = refl
and_assoc false b c = refl

-- ---- one row

-- the row's texts are valid names, and its number fits a u32
abbrev IsProper : Row → Type 0
IsProper row = IsTrue (is_named row) × (elim row as (λ _. Type 0) [ SetRow kind name n ↦ n < 2 ^ 32 | _ ↦ Unit {0} ])

-- the rows of a good state are such: no cardinality is greater than the number of members
pub proper_row : (S : RbacState) → IsGood S → names.AreNamed S → (row : Row) → IsTrue (has_row S row) → IsProper row
unfolding has_row
proper_row S good named (NameRow k a) has = (named (NameRow k a) has, tt)
proper_row S good named (PairRow k a b) has = (named (PairRow k a b) has, tt)
proper_row S good named (GrantRow a b c) has = (named (GrantRow a b c) has, tt)
proper_row S good named (LockedRow a) has = (named (LockedRow a) has, tt)
proper_row S good named (SetRow k a n) has = (named (SetRow k a n) has, small)
  where
    few : (separation : Separation) → IsSeparation S.roles separation → len (members_of separation a) ≤ limit_of Member S.version → IsTrue (contains separation.cardinalities (a, n)) → n < 2 ^ 32
    few separation is most there =
        let fits = is.cardinality a n there in
        let limit : len (members_of separation a) ≤ 32 = most in
        omega (arith, fits.1, limit)

    small : n < 2 ^ 32
    small = elim (cases_Bool (nat_eq k 1)) [
      | inl static ↦ few S.ssd good.well_formed.ssd (good.limits.ssd_members a) (rw static at has)
      | inr other ↦ elim (cases_Bool (nat_eq k 2)) [
        | inl dynamic ↦ few S.dsd good.well_formed.dsd (good.limits.dsd_members a) (rw (other, dynamic) at has)
        | inr neither ↦ absurd (let none = rw (other, neither) at has in cc)
      ]
    ]

abbrev AllProper : List Row → Type 0
AllProper rows = AllByRecursion IsProper rows

-- a kind that has a table is one of those that the column may have
abbrev in_range : ℕ → ℕ → Bool
in_range most kind = nat_le 1 kind && nat_le kind most

hit : (most k m : ℕ) → nat_eq k m ≡ true → in_range most m ≡ true → in_range most k ≡ true
hit most k m same within = subst (λ kind. in_range most kind ≡ true) (sym (eqb-true k m same)) within

name_kind : (k : ℕ) (a : List ℕ) → is_some (relation_of (NameRow k a)) ≡ true → in_range 3 k ≡ true
name_kind k a h = elim (cases_Bool (nat_eq k 1)) [
  | inl e ↦ hit 3 k 1 e refl
  | inr n1 ↦
      elim (cases_Bool (nat_eq k 2)) [
        | inl e ↦ hit 3 k 2 e refl
        | inr n2 ↦
            elim (cases_Bool (nat_eq k 3)) [
              | inl e ↦ hit 3 k 3 e refl
              | inr n3 ↦
                  absurd (let none = rw (n1, n2, n3) at h in cc)
            ]
      ]
]

pair_kind : (k : ℕ) (a b : List ℕ) → is_some (relation_of (PairRow k a b)) ≡ true → in_range 8 k ≡ true
pair_kind k a b h = elim (cases_Bool (nat_eq k 1)) [
  | inl e ↦ hit 8 k 1 e refl
  | inr n1 ↦
      elim (cases_Bool (nat_eq k 2)) [
        | inl e ↦ hit 8 k 2 e refl
        | inr n2 ↦
            elim (cases_Bool (nat_eq k 3)) [
              | inl e ↦ hit 8 k 3 e refl
              | inr n3 ↦
                  elim (cases_Bool (nat_eq k 4)) [
                    | inl e ↦ hit 8 k 4 e refl
                    | inr n4 ↦
                        elim (cases_Bool (nat_eq k 5)) [
                          | inl e ↦ hit 8 k 5 e refl
                          | inr n5 ↦
                              elim (cases_Bool (nat_eq k 6)) [
                                | inl e ↦ hit 8 k 6 e refl
                                | inr n6 ↦
                                    elim (cases_Bool (nat_eq k 7)) [
                                      | inl e ↦ hit 8 k 7 e refl
                                      | inr n7 ↦
                                          elim (cases_Bool (nat_eq k 8)) [
                                            | inl e ↦ hit 8 k 8 e refl
                                            | inr n8 ↦
                                                absurd (let none = rw (n1, n2, n3, n4, n5, n6, n7, n8) at h in cc)
                                          ]
                                    ]
                              ]
                        ]
                  ]
            ]
      ]
]

set_kind : (k : ℕ) (a : List ℕ) (n : ℕ) → is_some (relation_of (SetRow k a n)) ≡ true → in_range 2 k ≡ true
set_kind k a n h = elim (cases_Bool (nat_eq k 1)) [
  | inl e ↦ hit 2 k 1 e refl
  | inr n1 ↦
      elim (cases_Bool (nat_eq k 2)) [
        | inl e ↦ hit 2 k 2 e refl
        | inr n2 ↦
            absurd (let none = rw (n1, n2) at h in cc)
      ]
]

whole_own : (version : ℕ) (row : Row) → is_known version row ≡ true → IsProper row → is_well_typed (table_of (stored row)) (cells_of row) ≡ true
whole_own version (NameRow k a) known proper = rw (name_kind k a known) refl
whole_own version (PairRow k a b) known proper = rw (pair_kind k a b known) refl
whole_own version (GrantRow a b c) known proper = refl
whole_own version (SetRow k a n) known proper = rw (set_kind k a n known, lt-ltb n (2 ^ 32) proper.1) refl
whole_own version (LockedRow a) known proper = refl

named_own : (row : Row) → IsProper row → has_names (table_of (stored row)) (cells_of row) ≡ true
named_own (NameRow k a) proper = proper.0
named_own (PairRow k a b) proper = proper.0
named_own (GrantRow a b c) proper = sym (and_assoc (is_name a) (is_name b) (is_name c)) ∙ proper.0
named_own (SetRow k a n) proper = proper.0
named_own (LockedRow a) proper = proper.0

read_own : (row : Row) → row_in (table_of (stored row)) (cells_of row) ≡ row
read_own (NameRow k a) = refl
read_own (PairRow k a b) = refl
read_own (GrantRow a b c) = refl
read_own (SetRow k a n) = refl
read_own (LockedRow a) = refl

-- ---- the rows of one kind

of_kind : (kind : StoredTable) (row : Row) → is_of kind row ≡ true → kind ≡ table_of (stored row)
of_kind kind row is = same_code kind (table_of (stored row)) is

none_of_meta : (rows : List Row) → filter (is_of Meta) rows ≡ []
none_of_meta [] = refl
none_of_meta (NameRow k a ∷ rows) = none_of_meta rows
none_of_meta (PairRow k a b ∷ rows) = none_of_meta rows
none_of_meta (GrantRow a b c ∷ rows) = none_of_meta rows
none_of_meta (SetRow k a n ∷ rows) = none_of_meta rows
none_of_meta (LockedRow a ∷ rows) = none_of_meta rows

all_of_kind : (version : ℕ) (kind : StoredTable) (rows : List Row) → list_all (is_known version) rows ≡ true → AllProper rows
    → (list_all (is_well_typed kind) (map cells_of (filter (is_of kind) rows)) ≡ true) × (list_all (has_names kind) (map cells_of (filter (is_of kind) rows)) ≡ true) × (map (row_in kind) (map cells_of (filter (is_of kind) rows)) ≡ filter (is_of kind) rows)
all_of_kind version kind [] known proper = (refl, refl, refl)
all_of_kind version kind (row ∷ rows) known proper =
    let both = and_parts (is_known version row) (list_all (is_known version) rows) known in
    let more = all_of_kind version kind rows both.1 proper.1 in
    elim (cases_Bool (is_of kind row)) [
      | inl here ↦ (
          let same = of_kind kind row here in
          let whole : is_well_typed kind (cells_of row) ≡ true = ap (λ k. is_well_typed k (cells_of row)) same ∙ whole_own version row both.0 proper.0 in
          let names : has_names kind (cells_of row) ≡ true = ap (λ k. has_names k (cells_of row)) same ∙ named_own row proper.0 in
          let read : row_in kind (cells_of row) ≡ row = ap (λ k. row_in k (cells_of row)) same ∙ read_own row in
          rw here (rw whole more.0, rw names more.1, rw read (ap (λ l. row ∷ l) more.2)))
      | inr there ↦ rw there more
    ]

-- ---- the rows of all tables

into_right : {A : Type 0} (x : A) (zs xs ys : List A) → IsPermutation xs (x ∷ ys) → IsPermutation (zs ++ xs) (x ∷ (zs ++ ys))
into_right x zs xs ys same = IsPermutation-trans (zs ++ xs) (zs ++ x ∷ ys) (x ∷ (zs ++ ys)) (IsPermutation-append zs zs xs (x ∷ ys) (IsPermutation-refl zs) same) (IsPermutation-middle zs x ys)

abbrev by_table : StoredTable → List Row → List Row
by_table table rows = filter (is_of table) rows

abbrev lock_rows : ℕ → List Row → List Row
lock_rows version rows = if is_wanted version Locks then by_table Locks rows ++ [] else []

abbrev split : ℕ → List Row → List Row
split version rows = by_table Names rows ++ (by_table Pairs rows ++ (by_table Grants rows ++ (by_table Sets rows ++ lock_rows version rows)))

-- the rows of the tables together are all rows
split_all : (version : ℕ) (rows : List Row) → list_all (is_known version) rows ≡ true → IsPermutation (split version rows) rows
split_all version [] known = elim (cases_Bool (is_wanted version Locks)) [ inl w ↦ rw w (IsPermutation-refl []) | inr n ↦ rw n (IsPermutation-refl []) ]
split_all version (row ∷ rows) known = IsPermutation-trans (split version (row ∷ rows)) (row ∷ split version rows) (row ∷ rows) (first row both.0) (IsPermutation-cons row (split version rows) rows (split_all version rows both.1))
  where
    both : (is_known version row ≡ true) × (list_all (is_known version) rows ≡ true)
    both = and_parts (is_known version row) (list_all (is_known version) rows) known

    N : List Row
    N = by_table Names rows

    P : List Row
    P = by_table Pairs rows

    G : List Row
    G = by_table Grants rows

    T : List Row
    T = by_table Sets rows

    L : List Row
    L = lock_rows version rows

    first : (row : Row) → is_known version row ≡ true → IsPermutation (split version (row ∷ rows)) (row ∷ split version rows)
    first (NameRow k a) k_is = IsPermutation-refl _
    first (PairRow k a b) k_is = let x = PairRow k a b in IsPermutation-middle N x (P ++ (G ++ (T ++ L)))
    first (GrantRow a b c) k_is = let x = GrantRow a b c in into_right x N (P ++ x ∷ (G ++ (T ++ L))) (P ++ (G ++ (T ++ L))) (IsPermutation-middle P x (G ++ (T ++ L)))
    first (SetRow k a n) k_is = let x = SetRow k a n in
        into_right x N (P ++ (G ++ x ∷ (T ++ L))) (P ++ (G ++ (T ++ L))) (into_right x P (G ++ x ∷ (T ++ L)) (G ++ (T ++ L)) (IsPermutation-middle G x (T ++ L)))
    first (LockedRow a) k_is = let x = LockedRow a in let B = by_table Locks rows ++ [] in
        rw k_is (into_right x N (P ++ (G ++ (T ++ x ∷ B))) (P ++ (G ++ (T ++ B))) (into_right x P (G ++ (T ++ x ∷ B)) (G ++ (T ++ B)) (into_right x G (T ++ x ∷ B) (T ++ B) (IsPermutation-middle T x B))))

split_is : (version : ℕ) (rows : List Row) → flat_map (λ table. by_table table rows) (row_tables version) ≡ split version rows
split_is version rows = elim (cases_Bool (nat_eq version 1)) [
  | inl first ↦ rw first (ap (λ l. by_table Names rows ++ (by_table Pairs rows ++ (by_table Grants rows ++ l))) refl)
  | inr other ↦ rw other refl
]

flat_permutation : (f h : StoredTable → List Row) (tables : List StoredTable) → AllByRecursion (λ table. IsPermutation (f table) (h table)) tables → IsPermutation (flat_map f tables) (flat_map h tables)
flat_permutation f h [] all = IsPermutation-refl []
flat_permutation f h (table ∷ tables) all = IsPermutation-append (f table) (h table) (flat_map f tables) (flat_map h tables) all.0 (flat_permutation f h tables all.1)

-- ---- what is found

module _ (found : TableContents) (S : RbacState) (good : IsGood S) (is_named : names.AreNamed S) (has : HasRowsOf found S) where
  known_all : list_all (is_known S.version) has.rows ≡ true
  known_all = (readable_of_good S has.rows good has.rows_are).known

  proper : AllProper has.rows
  proper = each_proper has.rows (λ row among. has.rows_are.rows_are row ∙ among)
    where
      each_proper : (rows : List Row) → ((row : Row) → IsTrue (is_among rows row) → IsTrue (has_row S row)) → AllProper rows
      each_proper [] there = tt
      each_proper (row ∷ rows) there =
          (proper_row S good is_named row (there row (or_left (same_row row row) (is_among rows row) (same_row-self row))), each_proper rows (λ other among. there other (or_right (same_row row other) (is_among rows other) among)))

  abbrev Finds : StoredTable → Type 0
  Finds kind = IsSome (found kind) × IsPermutation (stored_rows S.version has.rows kind) (values found kind)

  finds : (kind : StoredTable) → IsTrue (is_wanted S.version kind) → Finds kind
  finds kind w =
      let it = has.tables kind w in
      so (found kind) it.0 it.1 it.2
    where
      so : (o : Option (List sql.Row)) (rows : List sql.Row) → o ≡ Some rows → IsPermutation (stored_rows S.version has.rows kind) rows → IsSome o × IsPermutation (stored_rows S.version has.rows kind) (elim o [ Some rows ↦ rows | None ↦ [] ])
      so None rows is same = absurd (cc)
      so (Some others) rows is same = (refl, (let e : others ≡ rows = cc in subst (IsPermutation (stored_rows S.version has.rows kind)) (sym e) same))

  -- the one row of meta_row
  metas : values found Meta ≡ cells (meta_row (codes "rbac") S.version) ∷ []
  metas = one_permutation _ _ (subst (λ l. IsPermutation (cells (meta_row (codes "rbac") S.version) ∷ map cells_of l) (values found Meta)) (none_of_meta has.rows) (finds Meta refl).1)

  numbers : versions (values found Meta) ≡ pos S.version ∷ []
  numbers = ap versions metas

  known_number : is_known_version (pos S.version) ≡ true
  known_number = elim good.version [ inl one ↦ rw one refl | inr two ↦ rw two refl ]

  known_versions : HasKnownVersions found
  known_versions = ap (list_all is_known_version) numbers ∙ rw known_number refl

  version_is : version_in found ≡ S.version
  version_is = elim good.version [ inl one ↦ rw (numbers, one) refl | inr two ↦ rw (numbers, two) refl ]

  office : IsOffice found
  office = record { tables = five; tagged = rw metas refl }
    where
      five : HasCommonTables found
      five Meta w = (finds Meta refl).0
      five Names w = (finds Names refl).0
      five Pairs w = (finds Pairs refl).0
      five Grants w = (finds Grants refl).0
      five Sets w = (finds Sets refl).0
      five Locks w = absurd (let e = w in cc)

  locks : HasLocks found
  locks = elim good.version [ inl one ↦ inl (version_is ∙ one) | inr two ↦ inr (finds Locks (rw two refl)).0 ]

  judged : (kind : StoredTable) → (list_all (is_well_typed kind) (stored_rows S.version has.rows kind) ≡ true) × (list_all (has_names kind) (stored_rows S.version has.rows kind) ≡ true)
  judged Meta = rw (none_of_meta has.rows) (refl, refl)
  judged Names = let it = all_of_kind S.version Names has.rows known_all proper in (it.0, it.1)
  judged Pairs = let it = all_of_kind S.version Pairs has.rows known_all proper in (it.0, it.1)
  judged Grants = let it = all_of_kind S.version Grants has.rows known_all proper in (it.0, it.1)
  judged Sets = let it = all_of_kind S.version Sets has.rows known_all proper in (it.0, it.1)
  judged Locks = let it = all_of_kind S.version Locks has.rows known_all proper in (it.0, it.1)

  wanted_so : (kind : StoredTable) → IsTrue (is_wanted (version_in found) kind) → IsTrue (is_wanted S.version kind)
  wanted_so kind w = subst (λ v. IsTrue (is_wanted v kind)) version_is w

  whole : AreWellTyped found
  whole = record {
    rows = λ kind w. sym (list_all-IsPermutation (is_well_typed kind) _ _ (finds kind (wanted_so kind w)).1) ∙ (judged kind).0;
    one = rw metas refl;
  }

  named : HaveValidNames found
  named kind w = sym (list_all-IsPermutation (has_names kind) _ _ (finds kind (wanted_so kind w)).1) ∙ (judged kind).1

  -- the rows that are read of one table
  read_at : (table : StoredTable) → IsTrue (is_wanted S.version table) → (table ≢ Meta) → IsPermutation (by_table table has.rows) (rows_at table found)
  read_at table w other =
      let is : map (row_in table) (stored_rows S.version has.rows table) ≡ by_table table has.rows = plain table other ∙ (all_of_kind S.version table has.rows known_all proper).2 in
      subst (λ l. IsPermutation l (rows_at table found)) is (IsPermutation-map (row_in table) _ _ (finds table w).1)
    where
      plain : (table : StoredTable) → table ≢ Meta → map (row_in table) (stored_rows S.version has.rows table) ≡ map (row_in table) (map cells_of (filter (is_of table) has.rows))
      plain Meta other = absurd (other refl)
      plain Names other = refl
      plain Pairs other = refl
      plain Grants other = refl
      plain Sets other = refl
      plain Locks other = refl

  read_all : (version : ℕ) → (version ≡ S.version) → IsPermutation (flat_map (λ table. by_table table has.rows) (row_tables version)) (rows_in_all found (row_tables version))
  read_all version is = flat_permutation (λ table. by_table table has.rows) (λ table. rows_at table found) (row_tables version) (rows_wanted (λ table. IsPermutation (by_table table has.rows) (rows_at table found)) version (subst (λ v. (v ≡ 1) ⊎ (v ≡ 2)) (sym is) good.version)
      (λ table w other. read_at table (subst (λ v. IsTrue (is_wanted v table)) is w) other))

  read_rows : IsPermutation has.rows (office_rows found)
  read_rows =
      let split_rows : IsPermutation (flat_map (λ table. by_table table has.rows) (row_tables S.version)) has.rows = subst (λ l. IsPermutation l has.rows) (sym (split_is S.version has.rows)) (split_all S.version has.rows known_all) in
      subst (λ v. IsPermutation has.rows (rows_in_all found (row_tables v))) (sym version_is) (IsPermutation-trans _ _ _ (IsPermutation-sym _ _ split_rows) (read_all S.version refl))

  of_state : (others : List Row) → IsPermutation (office_rows found) others → AreRowsOf S others
  of_state others same = rows_of_same S has.rows others (IsPermutation-trans has.rows (office_rows found) others read_rows same) has.rows_are

  -- the state is found, so nothing is refused except by Memory
  is_found : IsStateOfContents found S
  is_found = record {
    reached = (office, known_versions, locks);
    whole = whole;
    named = named;
    rows = office_rows found;
    same = IsPermutation-refl (office_rows found);
    state = record { version_is = sym version_is; stored = of_state (office_rows found) (IsPermutation-refl (office_rows found)); good = good };
  }

  nothing_refused : (refusal : Refusal) → RefusesContents found refusal → refusal ≡ Memory
  nothing_refused = found_refused found S is_found

  -- and no other state is found
  no_other : (T : RbacState) → IsStateOfContents found T → T ≡ S
  no_other T it =
      let ours = of_state it.rows it.same in
      rows_determine T S (it.state.version_is ∙ version_is) (λ row. it.state.stored.rows_are row ∙ sym (ours.rows_are row))

pub good_rows_are_found : GoodContentsAreRead
good_rows_are_found found S refusal good is_named has = nothing_refused found S good is_named has refusal

pub found_alone : StateIsUnique
found_alone found S T good is_named has = no_other found S good is_named has T

-- ---- a database that holds the state

has_rows : (db : Database) (S : RbacState) → HoldsState db S → HasRowsOf (contents_of db) S
has_rows db S held = record { rows = held.rows; rows_are = held.rows_are; tables = holds_found (is_wanted S.version) db (stored_rows S.version held.rows) held.tables }

pub memory_alone : (db : Database) (S : RbacState) → IsGood S → names.AreNamed S → HoldsState db S → (refusal : Refusal) → RefusesContents (contents_of db) refusal → refusal ≡ Memory
memory_alone db S good is_named held = nothing_refused (contents_of db) S good is_named (has_rows db S held)

pub same_state : (db : Database) (S : RbacState) → IsGood S → names.AreNamed S → HoldsState db S → (T : RbacState) → IsStateOfContents (contents_of db) T → T ≡ S
same_state db S good is_named held = no_other (contents_of db) S good is_named (has_rows db S held)
