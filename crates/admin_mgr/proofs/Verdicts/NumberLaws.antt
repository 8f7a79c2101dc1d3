-- Separation of duty by the numbers of roles is separation of duty by the roles, if the roles are there.
use Rattle.std.proofs.Common.{◌≡◌, ℕ, Bool, true, false, cond, not, ◌&&◌, ◌||◌, List, [], ◌∷◌, ◌++◌, length, map, refl, sym, ◌∙◌, ap, arith}
use Rattle.std.specs.Prelude.{IsTrue, Some, None, count_by, filter, find, nat_lt}
use Rattle.std.specs.List.{list_all, list_any}
use Rattle.std.proofs.lemmas.Bool.{and_parts, and_from}
use Rattle.std.proofs.lemmas.List.{append-nil}
use Rattle.std.proofs.lemmas.List.Folds.{list_all-map, list_all-append, list_any-append}
use Rattle.std.proofs.Math.Bool.{or-false}
use Rattle.rbac_sets.specs.Sets.{Bytes, Names, Pair, Pairs, Cardinality, all, contains, members}
use Rattle.rbac_sets.specs.NameOrder.{pair_total, pair_exact}
use Rattle.rbac_sets.proofs.Lists.{any_map, count_map}
use Rattle.rbac_sets.proofs.SetLaws.{all-Decides}
use Rattle.role_order.specs.Order.{geq}
use Rattle.order_matrix.specs.Table.{Table, entry, number_in, numbers_of, reaches, table_of}
use Rattle.order_matrix.proofs.Roles.{entry-number}
use Rattle.admin_mgr.specs.declared.separation_of_duty.SeparationOfDuty.{SeparationOfDuty}
use Rattle.admin_mgr.specs.declared.separation_of_duty.SeparationOfDuty.TheVariants.{Static, Dynamic}
use Rattle.admin_mgr.specs.RbacState.{RbacState, members_of}
use Rattle.admin_mgr.specs.RowChecks.{IsComplete}
use Rattle.admin_mgr.specs.StoredSets.{StoredSets}
use Rattle.admin_mgr.specs.Good.{IsWellFormed}
use Rattle.admin_mgr.specs.private.HolderRoles.{find_violated, is_reached, is_touched, reached_members, reached_roles, reached_with, run_of}
use Rattle.admin_mgr.specs.private.Holders.{runs_of}
use Rattle.admin_mgr.specs.private.NumberedSeparation.{first_violated_by, keep_all, keep_below}
use Rattle.admin_mgr.specs.private.SeparationOfDuty.{is_kept, sets_of}
use Rattle.admin_mgr.specs.private.CheckTests.{are_kept, are_roles_there, are_seconds_in}
use Rattle.admin_mgr.proofs.Verdicts.KeepLaws.{kept_members, same_where}

-- ---- tests along lists

-- what holds of each entry of a list holds of each entry that a filter leaves
all_filter : {X : Type 0} (holds q : X → Bool) (xs : List X) → list_all holds xs ≡ true → list_all holds (filter q xs) ≡ true
all_filter holds q [] each = refl
all_filter {X} holds q (x ∷ xs) each = (let parts = and_parts (holds x) _ each in step parts.0 (all_filter holds q xs parts.1) (q x))
  where
    step : holds x ≡ true → list_all holds (filter q xs) ≡ true → (b : Bool) → list_all holds (cond b (x ∷ filter q xs) (filter q xs)) ≡ true
    step here rest true = and_from _ _ here rest
    step here rest false = rest

all_everywhere : {X : Type 0} (p : X → Bool) (xs : List X) → ((x : X) → p x ≡ true) → list_all p xs ≡ true
all_everywhere p [] each = refl
all_everywhere p (x ∷ xs) each = and_from _ _ (each x) (all_everywhere p xs each)

-- tests that agree wherever a third holds have the same results on a list if the third holds of each entry
map_where : {X : Type 0} (holds p q : X → Bool) (xs : List X) → list_all holds xs ≡ true → ((x : X) → holds x ≡ true → p x ≡ q x) → map p xs ≡ map q xs
map_where holds p q [] each same = refl
map_where holds p q (x ∷ xs) each same = (let parts = and_parts (holds x) _ each in λ i. same x parts.0 i ∷ map_where holds p q xs parts.1 same i)

any_where : {X : Type 0} (holds p q : X → Bool) (xs : List X) → list_all holds xs ≡ true → ((x : X) → holds x ≡ true → p x ≡ q x) → list_any p xs ≡ list_any q xs
any_where holds p q xs each same = sym (any_map p (λ b. b) xs) ∙ ap (list_any (λ b. b)) (map_where holds p q xs each same) ∙ any_map q (λ b. b) xs

count_where : {X : Type 0} (holds p q : X → Bool) (xs : List X) → list_all holds xs ≡ true → ((x : X) → holds x ≡ true → p x ≡ q x) → count_by p xs ≡ count_by q xs
count_where holds p q xs each same = sym (count_map p (λ b. b) xs) ∙ ap (count_by (λ b. b)) (map_where holds p q xs each same) ∙ count_map q (λ b. b) xs

-- ---- the matrix of the order, and the numbers of the roles that are there

module _ (roles : Names) (edges : Pairs) (table : Table) (is : table ≡ table_of edges (members roles)) where
  abbrev there : Pair → Bool
  there pair = contains roles pair.1

  abbrev number : Bytes → ℕ
  number role = number_in (members roles) role

  abbrev numbers : List Pair → List ℕ
  numbers pairs = numbers_of (members roles) pairs

  reached_is : (held : List Pair) → list_all there held ≡ true → (role : Bytes) → contains roles role ≡ true → reaches table (numbers held) (number role) ≡ is_reached edges held role
  reached_is held each role here =
      any_map (λ (pair : Pair). number pair.1) (λ n. entry table n (number role)) held
      ∙ any_where there _ _ held each (λ pair at. entry-number roles edges table is pair.1 role at here)

  -- fewer than n members, counted by the numbers of the roles that each one has and of some more roles
  below_by : (more : List ℕ) (p : List Pair → Bytes → Bool) → ((held : List Pair) → list_all there held ≡ true → (role : Bytes) → contains roles role ≡ true → reaches table (numbers held ++ more) (number role) ≡ p held role)
      → (runs : List (List Pair)) → list_all (list_all there) runs ≡ true → (pairs : List Pair) → list_all there pairs ≡ true → (n : ℕ)
      → keep_below table (map (λ run. numbers run ++ more) runs) (numbers pairs) n ≡ list_all (λ held. nat_lt (count_by (λ (pair : Pair). p held pair.1) pairs) n) runs
  below_by more p same runs each pairs all_there n =
      list_all-map (λ run. nat_lt (count_by (λ m. reaches table run m) (numbers pairs)) n) (λ run. numbers run ++ more) runs
      ∙ same_where (list_all there) _ _ runs each (λ held holds. ap (λ k. nat_lt k n)
      (count_map (λ (pair : Pair). number pair.1) (λ m. reaches table (numbers held ++ more) m) pairs
      ∙ count_where there _ _ pairs all_there (λ pair here. same held holds pair.1 here)))

  pub below_is : (runs : List (List Pair)) → list_all (list_all there) runs ≡ true → (pairs : List Pair) → list_all there pairs ≡ true → (n : ℕ)
      → keep_below table (map (λ run. numbers run ++ []) runs) (numbers pairs) n ≡ list_all (λ held. nat_lt (reached_members edges held pairs) n) runs
  below_is = below_by [] (is_reached edges) (λ held each role here. ap (λ ns. reaches table ns (number role)) (append-nil (numbers held)) ∙ reached_is held each role here)

  -- the same of roles that are no pairs
  pub below_names_is : (runs : List (List Pair)) → list_all (list_all there) runs ≡ true → (names : List Bytes) → list_all (contains roles) names ≡ true → (n : ℕ)
      → keep_below table (map (λ run. numbers run ++ []) runs) (map number names) n ≡ list_all (λ held. nat_lt (reached_roles edges held names) n) runs
  below_names_is runs each names all_there n =
      list_all-map (λ run. nat_lt (count_by (λ m. reaches table run m) (map number names)) n) (λ run. numbers run ++ []) runs
      ∙ same_where (list_all there) _ _ runs each (λ held holds. ap (λ k. nat_lt k n)
      (count_map number (λ m. reaches table (numbers held ++ []) m) names
      ∙ count_where (contains roles) _ _ names all_there (λ role here. ap (λ ns. reaches table ns (number role)) (append-nil (numbers held)) ∙ reached_is held holds role here)))

  below_with_is : (more : Bytes) → contains roles more ≡ true → (runs : List (List Pair)) → list_all (list_all there) runs ≡ true → (pairs : List Pair) → list_all there pairs ≡ true → (n : ℕ)
      → keep_below table (map (λ run. numbers run ++ number more ∷ []) runs) (numbers pairs) n ≡ list_all (λ held. nat_lt (reached_with edges held more pairs) n) runs
  below_with_is more at = below_by (number more ∷ []) (λ held role. is_reached edges held role || geq edges more role) (λ held each role here.
      list_any-append (λ n. entry table n (number role)) (numbers held) (number more ∷ [])
      ∙ (λ i. reached_is held each role here i || (or-false (entry table (number more) (number role)) ∙ entry-number roles edges table is more role at here) i))

  touched_is : (more : Bytes) → contains roles more ≡ true → (pairs : List Pair) → list_all there pairs ≡ true → list_any (λ m. entry table (number more) m) (numbers pairs) ≡ is_touched edges more pairs
  touched_is more at pairs all_there =
      any_map (λ (pair : Pair). number pair.1) (λ m. entry table (number more) m) pairs
      ∙ any_where there _ _ pairs all_there (λ pair here. entry-number roles edges table is more pair.1 at here)

  -- the first set that is violated with one more role
  pub first_violated_is : (more : Bytes) → contains roles more ≡ true → (runs : List (List Pair)) → list_all (list_all there) runs ≡ true → (pairs : Pairs) → all there pairs ≡ true → (sets : List Cardinality)
      → first_violated_by table (members roles) (map (λ run. numbers run ++ number more ∷ []) runs) (number more) pairs sets ≡ find_violated edges runs more pairs sets
  unfolding all
  first_violated_is more at runs each pairs all_there sets =
      λ i. find (λ (set : Cardinality). (let run = run_of pairs set.0 in let in_run = all_filter there _ (members pairs) all_there in
      touched_is more at run in_run i && not (below_with_is more at runs each run in_run set.1 i))) sets

-- ---- no user or session

find_nothing : {X : Type 0} (test : X → Bool) (xs : List X) → find (λ x. test x && false) xs ≡ None
find_nothing test [] = refl
find_nothing {X} test (x ∷ xs) = step (find_nothing test xs) (test x)
  where
    step : find (λ x. test x && false) xs ≡ None → (b : Bool) → cond (b && false) (Some x) (find (λ x. test x && false) xs) ≡ None
    step rest true = rest
    step rest false = rest

-- if there is no user or session, no set is violated
pub nobody_violates : (runs : List (List Pair)) → length runs ≡ 0 → (edges : Pairs) (more : Bytes) (pairs : Pairs) (sets : List Cardinality)
    → find_violated edges runs more pairs sets ≡ None
nobody_violates [] none edges more pairs sets = find_nothing (λ (set : Cardinality). is_touched edges more (run_of pairs set.0)) sets
nobody_violates (run ∷ runs) none edges more pairs sets = absurd (omega (arith, none))

-- ---- of a state

-- each pair ends with one of the names
seconds_in : (names : Names) (pairs : Pairs) → ((a b : Bytes) → IsTrue (contains pairs (a, b)) → IsTrue (contains names b)) → IsTrue (are_seconds_in names pairs)
seconds_in names pairs within = (all-Decides pair_total pair_exact (λ (pair : Pair). contains names pair.1) pairs).1 (λ pair here. within pair.0 pair.1 here)

-- in a well-formed state, the roles that the relations refer to are there
pub roles_are_there : (S : RbacState) → IsWellFormed S → IsTrue (are_roles_there S)
roles_are_there S formed = and_from _ _ (and_from _ _ (and_from _ _
    (seconds_in S.roles S.assignments (λ user role here. (formed.assignments user role here).1))
    (seconds_in S.roles S.active formed.active))
    (seconds_in S.roles S.ssd.members (λ set role here. (formed.ssd.members set role here).1)))
    (seconds_in S.roles S.dsd.members (λ set role here. (formed.dsd.members set role here).1))

-- and so they are if the rows of a state are complete
pub complete_roles_are_there : (g : StoredSets) → IsComplete g → IsTrue (are_roles_there g.facts)
complete_roles_are_there g all = (let S = g.facts in and_from _ _ (and_from _ _ (and_from _ _
    (seconds_in S.roles S.assignments (λ user role here. (all.assignments user role here).1))
    (seconds_in S.roles S.active (λ session role here. (all.active session role here).1)))
    (seconds_in S.roles S.ssd.members (λ set role here. (all.ssd set role here).1)))
    (seconds_in S.roles S.dsd.members (λ set role here. (all.dsd set role here).1)))

module _ (S : RbacState) (there : IsTrue (are_roles_there S)) where
  in_each : IsTrue (are_seconds_in S.roles S.assignments) × IsTrue (are_seconds_in S.roles S.active) × IsTrue (are_seconds_in S.roles S.ssd.members) × IsTrue (are_seconds_in S.roles S.dsd.members)
  in_each =
      let three = and_parts (are_seconds_in S.roles S.assignments && are_seconds_in S.roles S.active && are_seconds_in S.roles S.ssd.members) _ there in
      let two = and_parts (are_seconds_in S.roles S.assignments && are_seconds_in S.roles S.active) _ three.0 in
      let one = and_parts (are_seconds_in S.roles S.assignments) _ two.0 in
      (one.0, one.1, two.1, three.1)

  -- the roles of the sets of one kind are there
  pub members_are_there : (duty : SeparationOfDuty) → all (λ (pair : Pair). contains S.roles pair.1) (sets_of duty S).members ≡ true
  members_are_there Static = in_each.2
  members_are_there Dynamic = in_each.3

  -- those of one set are
  pub members_run_is_there : (duty : SeparationOfDuty) (name : Bytes) → list_all (λ (pair : Pair). contains S.roles pair.1) (run_of (sets_of duty S).members name) ≡ true
  unfolding all
  members_run_is_there duty name = all_filter _ _ (members (sets_of duty S).members) (members_are_there duty)

  -- and with one more role that is
  pub members_and_one_are_there : (duty : SeparationOfDuty) (name role : Bytes) → contains S.roles role ≡ true
      → list_all (contains S.roles) (map (λ (pair : Pair). pair.1) (run_of (sets_of duty S).members name) ++ role ∷ []) ≡ true
  members_and_one_are_there duty name role here =
      let seconds = map (λ (pair : Pair). pair.1) (run_of (sets_of duty S).members name) in
      list_all-append (contains S.roles) seconds (role ∷ [])
      ∙ and_from _ _ (list_all-map (contains S.roles) (λ (pair : Pair). pair.1) (run_of (sets_of duty S).members name) ∙ members_run_is_there duty name) (and_from _ _ here refl)

  -- so are the roles of each user or session
  pub runs_are_there : (duty : SeparationOfDuty) → list_all (list_all (λ (pair : Pair). contains S.roles pair.1)) (runs_of duty S) ≡ true
  unfolding all
  runs_are_there Static =
      list_all-map (list_all (λ (pair : Pair). contains S.roles pair.1)) (run_of S.assignments) (members S.users)
      ∙ all_everywhere _ (members S.users) (λ user. all_filter _ _ (members S.assignments) in_each.0)
  runs_are_there Dynamic =
      list_all-map (list_all (λ (pair : Pair). contains S.roles pair.1)) (λ (session : Pair). run_of S.active session.0) (members S.sessions)
      ∙ all_everywhere _ (members S.sessions) (λ session. all_filter _ _ (members S.active) in_each.1)

  -- and those of the users or sessions that pass a test
  pub left_are_there : (duty : SeparationOfDuty) (test : List Pair → Bool) → list_all (list_all (λ (pair : Pair). contains S.roles pair.1)) (filter test (runs_of duty S)) ≡ true
  left_are_there duty test = all_filter _ test (runs_of duty S) (runs_are_there duty)

  by_members : (duty : SeparationOfDuty) → are_kept duty S ≡ list_all (λ (set : Cardinality). is_kept duty S (members_of (sets_of duty S) set.0) set.1) (members (sets_of duty S).cardinalities)
  unfolding all
  by_members Static = refl
  by_members Dynamic = refl

  -- no set of one kind is violated exactly if none is by the numbers
  pub keep_all_is : (table : Table) → table ≡ table_of S.edges (members S.roles) → (duty : SeparationOfDuty)
      → keep_all table (members S.roles) (map (λ run. numbers_of (members S.roles) run ++ []) (runs_of duty S)) (sets_of duty S).members (members (sets_of duty S).cardinalities) ≡ are_kept duty S
  unfolding all
  keep_all_is table is duty =
      (λ i. list_all (λ (set : Cardinality).
      (below_is S.roles S.edges table is (runs_of duty S) (runs_are_there duty) (run_of (sets_of duty S).members set.0) (all_filter _ _ (members (sets_of duty S).members) (members_are_there duty)) set.1
      ∙ sym (kept_members duty S (sets_of duty S) set.0 set.1)) i) (members (sets_of duty S).cardinalities))
      ∙ sym (by_members duty)
