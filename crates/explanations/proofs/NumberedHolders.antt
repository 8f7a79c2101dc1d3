-- What this crate looks for by the numbers of roles is what it looks for by the roles, if the roles are there.
use Rattle.std.proofs.Common.{◌≡◌, ℕ, Bool, true, false, cond, not, ◌||◌, List, [], ◌∷◌, ◌++◌, map, refl, sym, ◌∙◌, ap, length, arith}
use Rattle.std.specs.Prelude.{IsTrue, Option, Some, None, count_by, filter, find, nat_lt}
use Rattle.std.specs.List.{cons_option, filter_map, list_all, list_any}
use Rattle.std.specs.Option.{option_map}
use Rattle.std.proofs.lemmas.Bool.{and_from, and_parts}
use Rattle.std.proofs.lemmas.List.{append-nil, map-append}
use Rattle.std.proofs.lemmas.List.Elements.{All-filter}
use Rattle.std.proofs.lemmas.List.Folds.{list_all-append, list_any-append}
use Rattle.std.proofs.lemmas.List.Sums.{AllPass-from_list_all, list_all-from_AllPass}
use Rattle.std.proofs.Math.Bool.{and-true, or-false}
use Rattle.rbac_sets.specs.NameOrder.{pair_total, pair_exact}
use Rattle.rbac_sets.specs.Sets.{Bytes, Names, Pair, Pairs, Cardinality, all, contains, members, same_name}
use Rattle.rbac_sets.proofs.SetLaws.{all-Decides}
use Rattle.role_order.specs.Order.{geq}
use Rattle.order_matrix.specs.Table.{Table, entry, number_in, numbers_of, table_of}
use Rattle.order_matrix.proofs.Roles.{entry-number}
use Rattle.admin_mgr.specs.Good.{IsWellFormed}
use Rattle.admin_mgr.specs.RbacState.{RbacState}
use Rattle.admin_mgr.specs.private.HolderRoles.{is_reached, is_touched, reached_members, reached_with, run_of}
use Rattle.admin_mgr.specs.private.NumberedSeparation.{count_reached}
use Rattle.admin_mgr.proofs.Verdicts.NumberLaws.{below_is}
use Rattle.explanations.specs.private.Found.{conflicts_with, first_with, has_too_many_with, violated_with}
use Rattle.explanations.specs.private.Numbered.{first_reaching, has_too_many, number_roles, numbered_conflicts, numbered_violated}
use Rattle.explanations.proofs.Finds.{find_map}

-- the roles of the pairs that begin with one name are there
pub run_there : (roles : Names) (pairs : Pairs) → all (λ (pair : Pair). contains roles pair.1) pairs ≡ true → (first : Bytes) → list_all (λ (pair : Pair). contains roles pair.1) (run_of pairs first) ≡ true
unfolding all
run_there roles pairs each first =
    let there : Pair → Bool = λ pair. contains roles pair.1 in
    list_all-from_AllPass there (run_of pairs first)
    (All-filter (λ (pair : Pair). same_name pair.0 first) (λ (pair : Pair). there pair ≡ true) (members pairs) (AllPass-from_list_all there (members pairs) each))

-- ---- one more role is one more pair of the holder

reached_one_more : (edges : Pairs) (held : List Pair) (more : Bytes) (rows : List Pair) → reached_members edges (held ++ (more, more) ∷ []) rows ≡ reached_with edges held more rows
reached_one_more edges held more rows = λ i. count_by (λ (row : Pair). reached row.1 i) rows
  where
    reached : (role : Bytes) → is_reached edges (held ++ (more, more) ∷ []) role ≡ (is_reached edges held role || geq edges more role)
    reached role = list_any-append (λ (pair : Pair). geq edges pair.1 role) held ((more, more) ∷ []) ∙ ap (λ b. is_reached edges held role || b) (or-false (geq edges more role))

numbers_one_more : (names : List Bytes) (held : List Pair) (more : Bytes) → numbers_of names (held ++ (more, more) ∷ []) ++ [] ≡ numbers_of names held ++ number_in names more ∷ []
numbers_one_more names held more = append-nil _ ∙ map-append (λ (pair : Pair). number_in names pair.1) held ((more, more) ∷ [])

-- ---- the same value with another one beside it

beside : {X : Type 0} (f : Bytes → X) (o : Option Bytes) → option_map (λ (p : Bytes × X). p.0) (option_map (λ x. (x, f x)) o) ≡ o
beside f None = refl
beside f (Some x) = refl

-- ---- by the matrix of the order

module _ (roles : Names) (edges : Pairs) (table : Table) (is : table ≡ table_of edges (members roles)) (more : Bytes) (more_there : contains roles more ≡ true) where
  abbrev there : Pair → Bool
  there pair = contains roles pair.1

  abbrev number : Bytes → ℕ
  number role = number_in (members roles) role

  abbrev numbers : List Pair → List ℕ
  numbers pairs = numbers_of (members roles) pairs

  -- one holder and one set
  too_many_is : (held : List Pair) → list_all there held ≡ true → (rows : List Pair) → list_all there rows ≡ true → (n : ℕ)
      → has_too_many table (numbers held ++ number more ∷ []) (numbers rows) n ≡ has_too_many_with edges held more rows n
  too_many_is held held_there rows rows_there n =
      let with_more = held ++ (more, more) ∷ [] in
      let all_there = list_all-append there held ((more, more) ∷ []) ∙ and_from _ _ held_there (and_from _ _ more_there refl) in
      ap not
      (ap (λ ns. nat_lt (count_reached table ns (numbers rows)) n) (sym (numbers_one_more (members roles) held more))
      ∙ sym (and-true _)
      ∙ below_is roles edges table is (with_more ∷ []) (and_from _ _ all_there refl) rows rows_there n
      ∙ and-true _
      ∙ ap (λ k. nat_lt k n) (reached_one_more edges held more rows))

  -- all sets of one holder
  pub violated_is : (held : List Pair) → list_all there held ≡ true → (pairs : Pairs) → all there pairs ≡ true → (sets : List Cardinality)
      → numbered_violated table (members roles) (numbers held ++ number more ∷ []) pairs sets ≡ violated_with edges held more pairs sets
  violated_is held held_there pairs pairs_there sets =
      λ i. map (λ (set : Cardinality). set.0) (filter (λ (set : Cardinality). too_many_is held held_there (run_of pairs set.0) (run_there roles pairs pairs_there set.0) set.1 i) sets)

  -- the first of the holders
  first_is : (held : Pairs) → all there held ≡ true → (holders : List Bytes) (rows : List Pair) → list_all there rows ≡ true → (n : ℕ)
      → first_reaching table (number_roles (members roles) held (number more) holders) (numbers rows) n ≡ find (λ holder. has_too_many_with edges (run_of held holder) more rows n) holders
  first_is held held_there holders rows rows_there n =
      let numbered : Bytes → List ℕ = λ holder. numbers (run_of held holder) ++ number more ∷ [] in
      let too_many : Bytes × List ℕ → Bool = λ holder. has_too_many table holder.1 (numbers rows) n in
      ap (option_map (λ (holder : Bytes × List ℕ). holder.0)) (sym (find_map (λ holder. (holder, numbered holder)) too_many holders))
      ∙ beside numbered (find (λ holder. too_many (holder, numbered holder)) holders)
      ∙ (λ i. find (λ holder. too_many_is (run_of held holder) (run_there roles held held_there holder) rows rows_there n i) holders)

  -- one of the members is one more role or a junior of it
  touched_is : (rows : List Pair) → list_all there rows ≡ true → list_any (λ member. entry table (number more) member) (numbers rows) ≡ is_touched edges more rows
  touched_is [] rows_there = refl
  touched_is (row ∷ rows) rows_there =
      let parts = and_parts (there row) _ rows_there in
      λ i. entry-number roles edges table is more row.1 more_there parts.0 i || touched_is rows parts.1 i

  -- all sets
  pub conflicts_are : (held : Pairs) → all there held ≡ true → (holders : List Bytes) (pairs : Pairs) → all there pairs ≡ true → (sets : List Cardinality)
      → numbered_conflicts table (members roles) (number_roles (members roles) held (number more) holders) (number more) pairs sets ≡ conflicts_with (first_with edges held more holders) pairs sets
  conflicts_are held held_there holders pairs pairs_there sets =
      λ i. filter_map (λ (set : Cardinality). (let rows = run_of pairs set.0 in let rows_there = run_there roles pairs pairs_there set.0 in
      option_map (λ holder. (set.0, holder)) (cond (touched_is rows rows_there i) (first_is held held_there holders rows rows_there set.1 i) None))) sets

-- without a holder nobody violates a set
pub nobody_conflicts : (edges held : Pairs) (more : Bytes) (holders : List Bytes) → length holders ≡ 0 → (pairs : Pairs) (sets : List Cardinality)
    → conflicts_with (first_with edges held more holders) pairs sets ≡ []
nobody_conflicts edges held more [] none pairs sets = nothing sets
  where
    either : (b : Bool) (o : Option Bytes) → cond b o o ≡ o
    either true o = refl
    either false o = refl

    nothing : (xs : List Cardinality) → conflicts_with (first_with edges held more []) pairs xs ≡ []
    nothing [] = refl
    nothing (x ∷ xs) = λ i. cons_option (option_map (λ holder. (x.0, holder)) (either (is_touched edges more (run_of pairs x.0)) None i)) (nothing xs i)
nobody_conflicts edges held more (holder ∷ holders) none pairs sets = absurd (omega (arith, none))

-- ---- in a well-formed state the roles that the relations refer to are there

are_there : (roles : Names) (pairs : Pairs) → ((first role : Bytes) → IsTrue (contains pairs (first, role)) → IsTrue (contains roles role)) → all (λ (pair : Pair). contains roles pair.1) pairs ≡ true
are_there roles pairs within = (all-Decides pair_total pair_exact (λ (pair : Pair). contains roles pair.1) pairs).1 (λ pair here. within pair.0 pair.1 here)

module _ (S : RbacState) (formed : IsWellFormed S) where
  pub assigned_are_there : all (λ (pair : Pair). contains S.roles pair.1) S.assignments ≡ true
  assigned_are_there = are_there S.roles S.assignments (λ user role here. (formed.assignments user role here).1)

  pub active_are_there : all (λ (pair : Pair). contains S.roles pair.1) S.active ≡ true
  active_are_there = are_there S.roles S.active formed.active

  pub static_members_are_there : all (λ (pair : Pair). contains S.roles pair.1) S.ssd.members ≡ true
  static_members_are_there = are_there S.roles S.ssd.members (λ set role here. (formed.ssd.members set role here).1)

  pub dynamic_members_are_there : all (λ (pair : Pair). contains S.roles pair.1) S.dsd.members ≡ true
  dynamic_members_are_there = are_there S.roles S.dsd.members (λ set role here. (formed.dsd.members set role here).1)
