-- Rows of one set that are removed or inserted.
use Rattle.std.proofs.Common.{◌≡◌, Bool, true, false, not, ◌&&◌, ◌||◌, List, [], ◌∷◌, map, refl, sym, ◌∙◌, ap, subst}
use Rattle.std.specs.Prelude.{if◌then◌else◌, filter}
use Rattle.std.specs.List.{list_any, AllByRecursion, IsDistinct}
use Rattle.std.specs.declared.cmp.Ordering.{Ordering}
use Rattle.std.specs.Ordering.{eq_by_cmp}
use Rattle.std.specs.Cmp.{IsTotalOrder}
use Rattle.std.specs.FinMap.{IsAntisymmetric}
use Rattle.std.specs.FinSet.{FinSet}
use Rattle.std.proofs.lemmas.Bool.{and_parts, and_from, true≢false, false_from_ne_true, or_right}
use Rattle.std.proofs.Math.Bool.{and-true}
use Rattle.rbac_sets.specs.Sets.{contains, insert, remove, retain, members, insert_all, union, IsDisjoint}
use Rattle.rbac_sets.proofs.SetLaws.{contains-members, contains-insert, contains-remove, contains-retain, tie_Decides, same_set}
use Rattle.rbac_sets.proofs.Members.{members-retain, members-distinct}
use Rattle.rbac_sets.specs.declared.row.Row.{Row}
use Rattle.rbac_sets.specs.declared.row.Change.TheVariants.{Put, Take}
use Rattle.admin_mgr.specs.RbacState.{RbacState}
use Rattle.admin_mgr.specs.Rows.{has_row}
use Rattle.admin_mgr.specs.private.OneRow.{is_plain, with_row, without_row}
use Rattle.admin_mgr.specs.private.PlanChanges.{take_all, put_all}
use Rattle.admin_mgr.proofs.PlanRows.StepLaws.Way.{taking, putting}
use Rattle.admin_mgr.proofs.PlanRows.StepLaws.{Steps, steps_nothing, steps_append, steps_to, steps_take, steps_put}

-- The rows `row x` are those of one set of the state, which changes row by row: `get` reads the set, and `set` is the state
-- with another set in its place.
pub record IsSetOf {K : Type 0} {R : K → K → Ordering} (row : K → Row) (get : RbacState → FinSet R) (set : RbacState → FinSet R → RbacState) : Type 0 where
  pub plain : (x : K) → is_plain (row x) ≡ true
  pub has : (S : RbacState) (x : K) → has_row S (row x) ≡ contains (get S) x
  pub put : (S : RbacState) (x : K) → with_row S (row x) ≡ set S (insert (get S) x)
  pub take : (S : RbacState) (x : K) → without_row S (row x) ≡ set S (remove (get S) x)
  pub got : (S : RbacState) (s : FinSet R) → get (set S s) ≡ s
  pub again : (S : RbacState) (s t : FinSet R) → set (set S s) t ≡ set S t
  pub same : (S : RbacState) → set S (get S) ≡ S

-- ---- lists of entries

-- a disjunction of three in another order
or_swap : (a b c : Bool) → (a || (b || c)) ≡ ((b || a) || c)
or_swap true true c = refl
or_swap true false c = refl
or_swap false true c = refl
or_swap false false c = refl

-- b, and neither a nor c
and_move : (a b c : Bool) → ((not a && b) && not c) ≡ (b && not (a || c))
and_move true true c = refl
and_move true false c = refl
and_move false true c = refl
and_move false false c = refl

-- the rows of a mapped list
pub put_all-map : {K X : Type 0} (row : K → Row) (f : X → K) (xs : List X) → put_all row (map f xs) ≡ put_all (λ x. row (f x)) xs
put_all-map row f [] = refl
put_all-map row f (x ∷ xs) = ap (λ rest. Put (row (f x)) ∷ rest) (put_all-map row f xs)

-- what follows from two facts that hold of each entry
pub all_two : {K : Type 0} {P Q T : K → Type 0} → ((x : K) → P x → Q x → T x) → (xs : List K) → AllByRecursion P xs → AllByRecursion Q xs → AllByRecursion T xs
all_two both [] ps qs = tt
all_two both (x ∷ xs) ps qs = (both x ps.0 qs.0, all_two both xs ps.1 qs.1)

module _ {K : Type 0} {R : K → K → Ordering} where
  -- the set without the entries of a list
  unfoldable pub remove_all : FinSet R → List K → FinSet R
  remove_all s [] = s
  remove_all s (x ∷ xs) = remove_all (remove s x) xs

  -- the set with the entries of a list, inserted from the first on
  unfoldable pub insert_each : FinSet R → List K → FinSet R
  insert_each s [] = s
  insert_each s (x ∷ xs) = insert_each (insert s x) xs

  -- each entry is there when its turn comes
  abbrev pub AreThere : FinSet R → List K → Type 0
  AreThere s [] = Unit {0}
  AreThere s (x ∷ xs) = (contains s x ≡ true) × AreThere (remove s x) xs

  -- each entry isn't there when its turn comes
  abbrev pub AreNew : FinSet R → List K → Type 0
  AreNew s [] = Unit {0}
  AreNew s (x ∷ xs) = (contains s x ≡ false) × AreNew (insert s x) xs

module _ {K : Type 0} {R : K → K → Ordering} (total : IsTotalOrder R) (exact : IsAntisymmetric R) where
  -- what is there afterwards was there and isn't listed
  pub contains-remove_all : (xs : List K) (s : FinSet R) (y : K) → contains (remove_all s xs) y ≡ (contains s y && not (list_any (eq_by_cmp R y) xs))
  unfolding remove_all
  contains-remove_all [] s y = sym (and-true (contains s y))
  contains-remove_all (x ∷ xs) s y =
      contains-remove_all xs (remove s x) y ∙ ap (λ b. b && not (list_any (eq_by_cmp R y) xs)) (contains-remove total s x y)
      ∙ and_move (eq_by_cmp R y x) (contains s y) (list_any (eq_by_cmp R y) xs)

  -- what is there afterwards was there or is listed
  pub contains-insert_each : (xs : List K) (s : FinSet R) (y : K) → contains (insert_each s xs) y ≡ (list_any (eq_by_cmp R y) xs || contains s y)
  unfolding insert_each
  contains-insert_each [] s y = refl
  contains-insert_each (x ∷ xs) s y =
      contains-insert_each xs (insert s x) y ∙ ap (λ b. list_any (eq_by_cmp R y) xs || b) (contains-insert total s x y)
      ∙ or_swap (list_any (eq_by_cmp R y) xs) (eq_by_cmp R y x) (contains s y)

  -- the same if the last entry is inserted first
  pub contains-insert_all : (xs : List K) (s : FinSet R) (y : K) → contains (insert_all s xs) y ≡ (list_any (eq_by_cmp R y) xs || contains s y)
  unfolding insert_all
  contains-insert_all [] s y = refl
  contains-insert_all (x ∷ xs) s y = contains-insert total (insert_all s xs) x y ∙ ap (λ b. eq_by_cmp R y x || b) (contains-insert_all xs s y) ∙ joined (eq_by_cmp R y x) _ _
    where
      joined : (a b c : Bool) → (a || (b || c)) ≡ ((a || b) || c)
      joined true b c = refl
      joined false b c = refl

  -- inserting from the last entry on gives the same set
  pub insert_each-all : (s : FinSet R) (xs : List K) → insert_each s xs ≡ insert_all s xs
  insert_each-all s xs = same_set total exact _ _ (λ y. contains-insert_each xs s y ∙ sym (contains-insert_all xs s y))

  -- the listed members that pass a test are those of the set that pass it
  pub any-retain : (s : FinSet R) (test : K → Bool) (y : K) → list_any (eq_by_cmp R y) (filter test (members s)) ≡ (contains s y && test y)
  any-retain s test y = ap (list_any (eq_by_cmp R y)) (sym (members-retain total exact s test)) ∙ sym (contains-members (retain s test) y) ∙ contains-retain total exact s test y

  -- removing the members that pass a test retains the others
  pub remove_all-retain : (s : FinSet R) (test : K → Bool) → remove_all s (filter test (members s)) ≡ retain s (λ x. not (test x))
  remove_all-retain s test = same_set total exact _ _ (λ y. contains-remove_all (filter test (members s)) s y
      ∙ ap (λ b. contains s y && not b) (any-retain s test y) ∙ but (contains s y) (test y) ∙ sym (contains-retain total exact s (λ x. not (test x)) y))
    where
      but : (a b : Bool) → (a && not (a && b)) ≡ (a && not b)
      but true b = refl
      but false b = refl

  -- what holds of each entry of a list, from the test of membership
  pub all_of : (P : K → Type 0) (xs : List K) → ((x : K) → list_any (eq_by_cmp R x) xs ≡ true → P x) → AllByRecursion P xs
  all_of P [] each = tt
  all_of P (x ∷ xs) each = (
    each x (ap (λ b. b || list_any (eq_by_cmp R x) xs) ((tie_Decides total exact x x).1 refl)),
    all_of P xs (λ y h. each y (or_right (eq_by_cmp R y x) _ h)),
  )

  -- the test of equality fails in either order
  other_way : (x y : K) → eq_by_cmp R x y ≡ false → eq_by_cmp R y x ≡ false
  other_way x y apart = false_from_ne_true (eq_by_cmp R y x) (λ h. true≢false (sym ((tie_Decides total exact x y).1 (sym ((tie_Decides total exact y x).0 h))) ∙ apart))

  -- distinct entries that are there are there when their turn comes
  pub there_each : (xs : List K) (s : FinSet R) → IsDistinct (eq_by_cmp R) xs → AllByRecursion (λ x. contains s x ≡ true) xs → AreThere s xs
  unfolding IsDistinct
  there_each [] s distinct there = tt
  there_each (x ∷ xs) s distinct there = (
    there.0,
    there_each xs (remove s x) distinct.1 (all_two (λ y apart h. contains-remove total s x y ∙ and_from _ _ (ap not (other_way x y apart)) h) xs distinct.0 there.1),
  )

  -- distinct absent entries are absent when their turn comes
  pub new_each : (xs : List K) (s : FinSet R) → IsDistinct (eq_by_cmp R) xs → AllByRecursion (λ x. contains s x ≡ false) xs → AreNew s xs
  unfolding IsDistinct
  new_each [] s distinct absent = tt
  new_each (x ∷ xs) s distinct absent = (
    absent.0,
    new_each xs (insert s x) distinct.1 (all_two (λ y apart h. contains-insert total s x y ∙ (λ i. other_way x y apart i || h i)) xs distinct.0 absent.1),
  )

  -- removing an absent entry changes nothing
  pub remove-absent : (s : FinSet R) (x : K) → contains s x ≡ false → remove s x ≡ s
  remove-absent s x absent = same_set total exact _ _ (λ y. contains-remove total s x y ∙ by y (eq_by_cmp R y x) refl)
    where
      by : (y : K) (b : Bool) → eq_by_cmp R y x ≡ b → (not b && contains s y) ≡ contains s y
      by y true tie = sym (ap (contains s) ((tie_Decides total exact y x).0 tie) ∙ absent)
      by y false other = refl

  -- the members that pass a test are distinct
  pub distinct-filter : (s : FinSet R) (test : K → Bool) → IsDistinct (eq_by_cmp R) (filter test (members s))
  distinct-filter s test = subst (IsDistinct (eq_by_cmp R)) (members-retain total exact s test) (members-distinct R (retain s test))

-- ---- rows

module _ {K : Type 0} {R : K → K → Ordering} {row : K → Row} {get : RbacState → FinSet R} {set : RbacState → FinSet R → RbacState} (rows : IsSetOf row get set) where
  -- one row of the set is removed
  pub steps_take_one : (S : RbacState) (x : K) → contains (get S) x ≡ true → Steps taking S (Take (row x) ∷ []) (set S (remove (get S) x))
  steps_take_one S x there = steps_to (steps_take S (row x) (rows.plain x) (rows.has S x ∙ there)) (rows.take S x)

  -- one row of the set is inserted
  pub steps_put_one : (S : RbacState) (x : K) → contains (get S) x ≡ false → Steps putting S (Put (row x) ∷ []) (set S (insert (get S) x))
  steps_put_one S x absent = steps_to (steps_put S (row x) (rows.plain x) (rows.has S x ∙ absent)) (rows.put S x)

  -- the rows of a list are removed, each there when its turn comes
  pub steps_take_each : (xs : List K) (S : RbacState) → AreThere (get S) xs → Steps taking S (take_all row xs) (set S (remove_all (get S) xs))
  unfolding remove_all
  steps_take_each [] S there = steps_to (steps_nothing S) (sym (rows.same S))
  steps_take_each (x ∷ xs) S there =
      let left : FinSet R = remove (get S) x in
      let rest = steps_take_each xs (set S left) (subst (λ s. AreThere s xs) (sym (rows.got S left)) there.1) in
      steps_to (steps_append (steps_take_one S x there.0) rest) (ap (λ s. set (set S left) (remove_all s xs)) (rows.got S left) ∙ rows.again S left (remove_all left xs))

  -- the rows of a list are inserted, each absent when its turn comes
  pub steps_put_each : (xs : List K) (S : RbacState) → AreNew (get S) xs → Steps putting S (put_all row xs) (set S (insert_each (get S) xs))
  unfolding insert_each
  steps_put_each [] S new = steps_to (steps_nothing S) (sym (rows.same S))
  steps_put_each (x ∷ xs) S new =
      let more : FinSet R = insert (get S) x in
      let rest = steps_put_each xs (set S more) (subst (λ s. AreNew s xs) (sym (rows.got S more)) new.1) in
      steps_to (steps_append (steps_put_one S x new.0) rest) (ap (λ s. set (set S more) (insert_each s xs)) (rows.got S more) ∙ rows.again S more (insert_each more xs))

  module _ (total : IsTotalOrder R) (exact : IsAntisymmetric R) where
    -- the rows of a list of distinct entries are removed, all of which are there
    pub steps_take_list : (S : RbacState) (xs : List K) → IsDistinct (eq_by_cmp R) xs → AllByRecursion (λ x. contains (get S) x ≡ true) xs → Steps taking S (take_all row xs) (set S (remove_all (get S) xs))
    steps_take_list S xs distinct there = steps_take_each xs S (there_each total exact xs (get S) distinct there)

    -- the rows that pass a test are removed
    pub steps_take_some : (S : RbacState) (test : K → Bool) → Steps taking S (take_all row (filter test (members (get S)))) (set S (retain (get S) (λ x. not (test x))))
    steps_take_some S test = steps_to
        (steps_take_list S (filter test (members (get S))) (distinct-filter total exact (get S) test)
        (all_of total exact _ _ (λ x h. (and_parts _ _ (sym (any-retain total exact (get S) test x) ∙ h)).0)))
        (ap (set S) (remove_all-retain total exact (get S) test))

    -- the rows of a list of distinct entries are inserted, none of which is there
    pub steps_put_list : (S : RbacState) (xs : List K) → IsDistinct (eq_by_cmp R) xs → AllByRecursion (λ x. contains (get S) x ≡ false) xs → Steps putting S (put_all row xs) (set S (insert_all (get S) xs))
    steps_put_list S xs distinct absent = steps_to (steps_put_each xs S (new_each total exact xs (get S) distinct absent)) (ap (set S) (insert_each-all total exact (get S) xs))

    -- the rows of a set are inserted, none of which is there
    pub steps_put_set : (S : RbacState) (more : FinSet R) → IsDisjoint more (get S) → Steps putting S (put_all row (members more)) (set S (union (get S) more))
    unfolding union
    steps_put_set S more absent = steps_put_list S (members more) (members-distinct R more) (all_of total exact _ _ (λ x h. absent x (contains-members more x ∙ h)))

  -- the row is removed if it is there
  pub steps_take_any : IsTotalOrder R → IsAntisymmetric R → (S : RbacState) (x : K) → Steps taking S (if contains (get S) x then Take (row x) ∷ [] else []) (set S (remove (get S) x))
  steps_take_any total exact S x = by (contains (get S) x) refl
    where
      by : (b : Bool) → contains (get S) x ≡ b → Steps taking S (if b then Take (row x) ∷ [] else []) (set S (remove (get S) x))
      by true there = steps_take_one S x there
      by false absent = steps_to (steps_nothing S) (sym (rows.same S) ∙ ap (set S) (sym (remove-absent total exact (get S) x absent)))
