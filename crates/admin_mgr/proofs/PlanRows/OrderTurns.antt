-- The rows of an edge and of the pairs that the order gains or loses by it.
use Rattle.std.proofs.Common.{◌≡◌, ℕ, Bool, true, false, not, ◌&&◌, ◌||◌, List, [], ◌∷◌, ◌++◌, refl, sym, ◌∙◌, ap, subst, inl, inr}
use Rattle.std.specs.Prelude.{nat_eq, if◌then◌else◌}
use Rattle.std.specs.List.{list_any, IsDistinct}
use Rattle.std.specs.Ordering.{eq_by_cmp}
use Rattle.std.proofs.lemmas.Bool.{eqb-true, eq-eqb, or_cases, or_left, or_right, and_parts, and_from, not-true, true≢false, false_from_ne_true}
use Rattle.std.specs.Cmp.{both_ways}
use Rattle.std.proofs.Math.Bool.{or-false, or_comm, and_comm}
use Rattle.rbac_sets.specs.Sets.{Bytes, Pair, Pairs, pair_cmp, contains, insert, remove, members, same_name}
use Rattle.rbac_sets.specs.NameOrder.{name_total, name_exact, pair_total, pair_exact}
use Rattle.rbac_sets.proofs.SetLaws.{contains-members, contains-insert, contains-remove, tie_Decides}
use Rattle.rbac_sets.proofs.InOrder.{none_passes}
use Rattle.role_order.specs.Order.{HasPair, Geq, geq, IsGained}
use Rattle.role_order.specs.Planned.{Plan, Fits, changed}
use Rattle.role_order.proofs.Members.{AddsPair-insert, TakesPair-remove}
use Rattle.role_order.proofs.Leading.{Leads-from_eq, Leads-mono}
use Rattle.role_order.proofs.Deciding.{geq-Decides, geq_or_not}
use Rattle.role_order.proofs.Planning.{changed-adds, changed-takes}
use Rattle.rbac_sets.specs.declared.row.Row.{Row}
use Rattle.rbac_sets.specs.declared.row.Row.TheVariants.{PairRow}
use Rattle.rbac_sets.specs.declared.row.TheConstants.Row.{PERMISSION, ASSIGNMENT, INHERITANCE, CLOSURE_PAIR}
use Rattle.rbac_sets.specs.declared.row.Change.{Change}
use Rattle.rbac_sets.specs.declared.row.Change.TheVariants.{Put, Take}
use Rattle.rbac_sets.proofs.Members.{members-distinct}
use Rattle.rbac_sets.proofs.Lists.{any_map}
use Rattle.admin_mgr.specs.RbacState.{RbacState}
use Rattle.admin_mgr.specs.Rows.{has_row}
use Rattle.admin_mgr.specs.Changes.{same_row, puts, takes, is_put, is_taken, IsOnce, TakesFirst, Turns}
use Rattle.admin_mgr.specs.RowUpdates.{with_edges}
use Rattle.admin_mgr.specs.private.PlanChanges.{pair_row, put_all, take_all, order_puts, order_takes}
use Rattle.admin_mgr.proofs.PlanRows.CommitLaws.{edges-changes}
use Rattle.admin_mgr.proofs.PlanRows.StepLaws.Way.{taking, putting}
use Rattle.admin_mgr.proofs.PlanRows.StepLaws.{Steps, steps_with_edges}
use Rattle.admin_mgr.proofs.PlanRows.TurnLaws.{taking_puts, putting_takes, turns_taking, turns_putting, turns_taking_more, turns_putting_more}

-- ---- which rows they are

-- the row is that of the edge, or of one of the pairs
abbrev is_listed : Bytes → Bytes → Pairs → Row → Bool
is_listed asc desc pairs row = same_row (PairRow INHERITANCE asc desc) row || list_any (λ pair. same_row (pair_row CLOSURE_PAIR pair) row) (members pairs)

-- exactly these rows are inserted
puts_are : (asc desc : Bytes) (pairs : Pairs) (row : Row) → is_put (order_puts asc desc pairs) row ≡ is_listed asc desc pairs row
unfolding is_put
puts_are asc desc pairs row = ap (λ b. same_row (PairRow INHERITANCE asc desc) row || b) (any_map (λ pair. Put (pair_row CLOSURE_PAIR pair)) (λ change. puts change row) (members pairs))

-- exactly these rows are removed
takes_are : (asc desc : Bytes) (pairs : Pairs) (row : Row) → is_taken (order_takes asc desc pairs) row ≡ is_listed asc desc pairs row
unfolding is_taken
takes_are asc desc pairs row = ap (λ b. same_row (PairRow INHERITANCE asc desc) row || b) (any_map (λ pair. Take (pair_row CLOSURE_PAIR pair)) (λ change. takes change row) (members pairs))

-- no entry passes a test that nothing passes
none_listed : {X : Type 0} (test : X → Bool) (xs : List X) → ((x : X) → test x ≡ false) → list_any test xs ≡ false
none_listed test [] none = refl
none_listed test (x ∷ xs) none = λ i. none x i || none_listed test xs none i

-- inserting the rows of pairs removes nothing
nothing_taken : (row : Pair → Row) (pairs : List Pair) (other : Row) → is_taken (put_all row pairs) other ≡ false
unfolding is_taken
nothing_taken row [] other = refl
nothing_taken row (pair ∷ pairs) other = nothing_taken row pairs other

-- removing the rows of pairs inserts nothing
nothing_put : (row : Pair → Row) (pairs : List Pair) (other : Row) → is_put (take_all row pairs) other ≡ false
unfolding is_put
nothing_put row [] other = refl
nothing_put row (pair ∷ pairs) other = nothing_put row pairs other

-- adding an edge removes nothing
order_takes_nothing : (asc desc : Bytes) (pairs : Pairs) (row : Row) → is_taken (order_puts asc desc pairs) row ≡ false
unfolding is_taken
order_takes_nothing asc desc pairs row = nothing_taken (pair_row CLOSURE_PAIR) (members pairs) row

-- removing an edge inserts nothing
order_puts_nothing : (asc desc : Bytes) (pairs : Pairs) (row : Row) → is_put (order_takes asc desc pairs) row ≡ false
unfolding is_put
order_puts_nothing asc desc pairs row = nothing_put (pair_row CLOSURE_PAIR) (members pairs) row

-- in a list of insertions, no removal follows an insertion
puts_last : (row : Pair → Row) (pairs : List Pair) → TakesFirst (put_all row pairs)
puts_last row [] = tt
puts_last row (pair ∷ pairs) = (nothing_taken row pairs, puts_last row pairs)

-- nor does one in a list of removals
takes_alone : (row : Pair → Row) (pairs : List Pair) → TakesFirst (take_all row pairs)
takes_alone row [] = tt
takes_alone row (pair ∷ pairs) = takes_alone row pairs

-- each of distinct pairs is inserted once
puts_once : (pairs : List Pair) → IsDistinct (eq_by_cmp pair_cmp) pairs → IsOnce (put_all (pair_row CLOSURE_PAIR) pairs)
unfolding IsDistinct is_put
puts_once [] distinct = tt
puts_once (pair ∷ pairs) distinct = (
  any_map (λ other. Put (pair_row CLOSURE_PAIR other)) (λ change. puts change (pair_row CLOSURE_PAIR pair)) pairs ∙ none_passes (eq_by_cmp pair_cmp pair) pairs distinct.0,
  puts_once pairs distinct.1,
)

-- each of distinct pairs is removed once
takes_once : (pairs : List Pair) → IsDistinct (eq_by_cmp pair_cmp) pairs → IsOnce (take_all (pair_row CLOSURE_PAIR) pairs)
unfolding IsDistinct is_taken
takes_once [] distinct = tt
takes_once (pair ∷ pairs) distinct = (
  any_map (λ other. Take (pair_row CLOSURE_PAIR other)) (λ change. takes change (pair_row CLOSURE_PAIR pair)) pairs ∙ none_passes (eq_by_cmp pair_cmp pair) pairs distinct.0,
  takes_once pairs distinct.1,
)

-- the row of the edge is none of these rows
edge_apart : (asc desc : Bytes) (pairs : List Pair) → list_any (λ pair. same_row (pair_row CLOSURE_PAIR pair) (PairRow INHERITANCE asc desc)) pairs ≡ false
edge_apart asc desc pairs = none_listed (λ pair. same_row (pair_row CLOSURE_PAIR pair) (PairRow INHERITANCE asc desc)) pairs (λ pair. refl)

-- ---- the kinds of rows

-- two numbers differ in either order
flipped : (k l : ℕ) → nat_eq l k ≡ false → nat_eq k l ≡ false
flipped k l other = false_from_ne_true (nat_eq k l) (λ same. true≢false (sym (eq-eqb l k (sym (eqb-true k l same))) ∙ other))

-- a kind of pairs is that of the edges, that of the order, or another
by_kind : (P : ℕ → Type 0) → P INHERITANCE → P CLOSURE_PAIR → ((k : ℕ) → nat_eq k INHERITANCE ≡ false → nat_eq k CLOSURE_PAIR ≡ false → P k) → (kind : ℕ) → P kind
by_kind P edge order others kind = told (nat_eq kind INHERITANCE) (nat_eq kind CLOSURE_PAIR) refl refl
  where
    told : (a b : Bool) → nat_eq kind INHERITANCE ≡ a → nat_eq kind CLOSURE_PAIR ≡ b → P kind
    told true b is other = subst P (sym (eqb-true kind INHERITANCE is)) edge
    told false true other is = subst P (sym (eqb-true kind CLOSURE_PAIR is)) order
    told false false one other = others kind one other

-- no row of another kind is listed
listed_other : (asc desc : Bytes) (pairs : Pairs) (k : ℕ) (x y : Bytes) → nat_eq k INHERITANCE ≡ false → nat_eq k CLOSURE_PAIR ≡ false → is_listed asc desc pairs (PairRow k x y) ≡ false
listed_other asc desc pairs k x y no_edge no_pair = λ i.
    (flipped 3 k no_edge i && eq_by_cmp pair_cmp (x, y) (asc, desc))
    || none_listed (λ pair. nat_eq CLOSURE_PAIR k && eq_by_cmp pair_cmp (x, y) pair) (members pairs) (λ pair. ap (λ b. b && eq_by_cmp pair_cmp (x, y) pair) (flipped CLOSURE_PAIR k no_pair)) i

-- the edge that is listed
listed_edge : (asc desc : Bytes) (pairs : Pairs) (x y : Bytes) → is_listed asc desc pairs (PairRow INHERITANCE x y) ≡ eq_by_cmp pair_cmp (x, y) (asc, desc)
listed_edge asc desc pairs x y = ap (λ b. eq_by_cmp pair_cmp (x, y) (asc, desc) || b) (edge_apart x y (members pairs)) ∙ or-false (eq_by_cmp pair_cmp (x, y) (asc, desc))

-- the pairs of the order that are listed
listed_pair : (asc desc : Bytes) (pairs : Pairs) (x y : Bytes) → is_listed asc desc pairs (PairRow CLOSURE_PAIR x y) ≡ contains pairs (x, y)
listed_pair asc desc pairs x y = sym (contains-members pairs (x, y))

-- a choice doesn't depend on the results of the third and the fourth test if both fail
two_skipped : (a b c d p q r s r' s' t : Bool) → c ≡ false → d ≡ false →
    (if a then p else if b then q else if c then r else if d then s else t) ≡ (if a then p else if b then q else if c then r' else if d then s' else t)
two_skipped a b true d p q r s r' s' t h k = absurd (true≢false h)
two_skipped a b false true p q r s r' s' t h k = absurd (true≢false k)
two_skipped a b false false p q r s r' s' t h k = refl

-- the rows of pairs that are neither edges nor pairs of the order stay if the edges change
others_stay : (S : RbacState) (edges : Pairs) (k : ℕ) (x y : Bytes) → nat_eq k INHERITANCE ≡ false → nat_eq k CLOSURE_PAIR ≡ false → has_row (with_edges S edges) (PairRow k x y) ≡ has_row S (PairRow k x y)
unfolding has_row
others_stay S edges k x y no_edge no_pair = two_skipped (nat_eq k PERMISSION) (nat_eq k ASSIGNMENT) (nat_eq k INHERITANCE) (nat_eq k CLOSURE_PAIR) _ _ _ _ _ _ _ no_edge no_pair

and_not_none : (b : Bool) → b ≡ (b && not false)
and_not_none true = refl
and_not_none false = refl

-- names of which the first doesn't dominate the second differ
other_names : (edges : Pairs) (a b : Bytes) → (Geq edges a b → ⊥) → not (same_name a b) ≡ true
other_names edges a b apart = ap not (false_from_ne_true (same_name a b) (λ same. apart (Leads-from_eq ((tie_Decides name_total name_exact a b).0 same))))

module _ (S : RbacState) (asc desc : Bytes) (pairs : Pairs) where
  -- no row of another form is listed
  no_row : list_any (λ (pair : Pair). false) (members pairs) ≡ false
  no_row = none_listed (λ pair. false) (members pairs) (λ pair. refl)

  -- ---- an edge is added

  module _ (absent : contains S.edges (asc, desc) ≡ false) (gained : IsGained S.edges (insert S.edges (asc, desc)) pairs) where
    -- the edges with the new one
    abbrev more : Pairs
    more = insert S.edges (asc, desc)

    -- a role that dominates another still does with more edges
    mono : (a b : Bytes) → Geq S.edges a b → Geq more a b
    mono a b = Leads-mono (HasPair S.edges) (HasPair more) (λ x y h. (AddsPair-insert S.edges asc desc x y).1 (inl h))

    -- the order after: the pairs before, and those that it gains
    above_put : (x y : Bytes) → (geq more x y && not (same_name x y)) ≡ ((geq S.edges x y && not (same_name x y)) || contains pairs (x, y))
    above_put x y = both_ways _ _
        (λ h. (let parts = and_parts _ _ h in elim (geq_or_not S.edges x y) [
          | inl was ↦ or_left _ _ (and_from _ _ ((geq-Decides S.edges x y).1 was) parts.1)
          | inr not_yet ↦ or_right _ _ ((gained x y).1 ((geq-Decides more x y).0 parts.0, not_yet))
        ]))
        (λ h. (elim (or_cases (geq S.edges x y && not (same_name x y)) (contains pairs (x, y)) h) [
          | inl was ↦ let parts = and_parts _ _ was in and_from _ _ ((geq-Decides more x y).1 (mono x y ((geq-Decides S.edges x y).0 parts.0))) parts.1
          | inr new ↦ let facts = (gained x y).0 new in and_from _ _ ((geq-Decides more x y).1 facts.0) (other_names S.edges x y facts.1)
        ]))

    -- the rows after: those before, and those that are listed
    rows_put : (row : Row) → has_row (with_edges S more) row ≡ (has_row S row || is_listed asc desc pairs row)
    unfolding has_row
    rows_put (PairRow k x y) = by_kind (λ kind. has_row (with_edges S more) (PairRow kind x y) ≡ (has_row S (PairRow kind x y) || is_listed asc desc pairs (PairRow kind x y)))
        (contains-insert pair_total S.edges (asc, desc) (x, y) ∙ or_comm (eq_by_cmp pair_cmp (x, y) (asc, desc)) (contains S.edges (x, y))
        ∙ ap (λ b. contains S.edges (x, y) || b) (sym (listed_edge asc desc pairs x y)))
        (above_put x y ∙ ap (λ b. (geq S.edges x y && not (same_name x y)) || b) (sym (listed_pair asc desc pairs x y)))
        (λ kind no_edge no_pair. others_stay S more kind x y no_edge no_pair ∙ sym (or-false _) ∙ ap (λ b. has_row S (PairRow kind x y) || b) (sym (listed_other asc desc pairs kind x y no_edge no_pair)))
        k
    rows_put row = sym (or-false _) ∙ ap (λ b. has_row S row || b) (sym (no_row))

    -- no listed row was there
    listed_absent : (row : Row) → is_listed asc desc pairs row ≡ true → has_row S row ≡ false
    unfolding has_row
    listed_absent (PairRow k x y) = by_kind (λ kind. is_listed asc desc pairs (PairRow kind x y) ≡ true → has_row S (PairRow kind x y) ≡ false)
        (λ h. ap (contains S.edges) ((tie_Decides pair_total pair_exact (x, y) (asc, desc)).0 (sym (listed_edge asc desc pairs x y) ∙ h)) ∙ absent)
        (λ h. false_from_ne_true (geq S.edges x y && not (same_name x y)) (λ was. ((gained x y).0 (sym (listed_pair asc desc pairs x y) ∙ h)).1 ((geq-Decides S.edges x y).0 (and_parts _ _ was).0)))
        (λ kind no_edge no_pair h. absurd (true≢false (sym h ∙ listed_other asc desc pairs kind x y no_edge no_pair)))
        k
    listed_absent _ = λ h. absurd (true≢false (sym h ∙ no_row))

    -- inserting the rows of a new edge and of the pairs that the order gains leads to the state with this edge
    pub turns_order_puts : Turns S (order_puts asc desc pairs) (with_edges S (insert S.edges (asc, desc)))
    unfolding is_put
    turns_order_puts = record {
      version = refl;
      rows = λ row. rows_put row ∙ (λ i. and_not_none (has_row S row) i || sym (puts_are asc desc pairs row) i)
          ∙ ap (λ b. has_row S row && not b || is_put (order_puts asc desc pairs) row) (sym (order_takes_nothing asc desc pairs row));
      there = λ row h. absurd (true≢false (sym h ∙ order_takes_nothing asc desc pairs row));
      absent = λ row h. listed_absent row (sym (puts_are asc desc pairs row) ∙ h);
      once = (
        any_map (λ pair. Put (pair_row CLOSURE_PAIR pair)) (λ change. puts change (PairRow INHERITANCE asc desc)) (members pairs) ∙ edge_apart asc desc (members pairs),
        puts_once (members pairs) (members-distinct pair_cmp pairs),
      );
      takes_first = (nothing_taken (pair_row CLOSURE_PAIR) (members pairs), puts_last (pair_row CLOSURE_PAIR) (members pairs));
    }

  -- ---- an edge is removed

  module _ (there : contains S.edges (asc, desc) ≡ true) (lost : IsGained (remove S.edges (asc, desc)) S.edges pairs) where
    -- the edges without this one
    abbrev left : Pairs
    left = remove S.edges (asc, desc)

    -- a role that dominates another without the edge did so with it
    was_so : (a b : Bytes) → Geq left a b → Geq S.edges a b
    was_so a b = Leads-mono (HasPair left) (HasPair S.edges) (λ x y h. ((TakesPair-remove S.edges asc desc x y).0 h).0)

    -- the order after: the pairs before, without those that it loses
    above_take : (x y : Bytes) → (geq left x y && not (same_name x y)) ≡ ((geq S.edges x y && not (same_name x y)) && not (contains pairs (x, y)))
    above_take x y = both_ways _ _
        (λ h. (let parts = and_parts _ _ h in
        let still : Geq left x y = (geq-Decides left x y).0 parts.0 in
        and_from _ _ (and_from _ _ ((geq-Decides S.edges x y).1 (was_so x y still)) parts.1) (ap not (false_from_ne_true (contains pairs (x, y)) (λ gone. ((lost x y).0 gone).1 still)))))
        (λ h. (let parts = and_parts _ _ h in
        let was = and_parts _ _ parts.0 in
        elim (geq_or_not left x y) [
          | inl still ↦ and_from _ _ ((geq-Decides left x y).1 still) was.1
          | inr gone ↦ absurd (true≢false (sym ((lost x y).1 ((geq-Decides S.edges x y).0 was.0, gone)) ∙ not-true (contains pairs (x, y)) parts.1))
        ]))

    -- the rows after: those before, without those that are listed
    rows_take : (row : Row) → has_row (with_edges S left) row ≡ (has_row S row && not (is_listed asc desc pairs row))
    unfolding has_row
    rows_take (PairRow k x y) = by_kind (λ kind. has_row (with_edges S left) (PairRow kind x y) ≡ (has_row S (PairRow kind x y) && not (is_listed asc desc pairs (PairRow kind x y))))
        (contains-remove pair_total S.edges (asc, desc) (x, y) ∙ and_comm (not (eq_by_cmp pair_cmp (x, y) (asc, desc))) (contains S.edges (x, y))
        ∙ ap (λ b. contains S.edges (x, y) && not b) (sym (listed_edge asc desc pairs x y)))
        (above_take x y ∙ ap (λ b. (geq S.edges x y && not (same_name x y)) && not b) (sym (listed_pair asc desc pairs x y)))
        (λ kind no_edge no_pair. others_stay S left kind x y no_edge no_pair ∙ and_not_none _ ∙ ap (λ b. has_row S (PairRow kind x y) && not b) (sym (listed_other asc desc pairs kind x y no_edge no_pair)))
        k
    rows_take row = and_not_none _ ∙ ap (λ b. has_row S row && not b) (sym (no_row))

    -- each listed row was there
    listed_there : (row : Row) → is_listed asc desc pairs row ≡ true → has_row S row ≡ true
    unfolding has_row
    listed_there (PairRow k x y) = by_kind (λ kind. is_listed asc desc pairs (PairRow kind x y) ≡ true → has_row S (PairRow kind x y) ≡ true)
        (λ h. ap (contains S.edges) ((tie_Decides pair_total pair_exact (x, y) (asc, desc)).0 (sym (listed_edge asc desc pairs x y) ∙ h)) ∙ there)
        (λ h. (let facts = (lost x y).0 (sym (listed_pair asc desc pairs x y) ∙ h) in and_from _ _ ((geq-Decides S.edges x y).1 facts.0) (other_names left x y facts.1)))
        (λ kind no_edge no_pair h. absurd (true≢false (sym h ∙ listed_other asc desc pairs kind x y no_edge no_pair)))
        k
    listed_there _ = λ h. absurd (true≢false (sym h ∙ no_row))

    -- removing the rows of an edge and of the pairs that the order loses with it leads to the state without this edge
    pub turns_order_takes : Turns S (order_takes asc desc pairs) (with_edges S (remove S.edges (asc, desc)))
    unfolding is_taken
    turns_order_takes = record {
      version = refl;
      rows = λ row. rows_take row ∙ sym (or-false _) ∙ (λ i. has_row S row && not (sym (takes_are asc desc pairs row) i) || sym (order_puts_nothing asc desc pairs row) i);
      there = λ row h. listed_there row (sym (takes_are asc desc pairs row) ∙ h);
      absent = λ row h. absurd (true≢false (sym h ∙ order_puts_nothing asc desc pairs row));
      once = (
        any_map (λ pair. Take (pair_row CLOSURE_PAIR pair)) (λ change. takes change (PairRow INHERITANCE asc desc)) (members pairs) ∙ edge_apart asc desc (members pairs),
        takes_once (members pairs) (members-distinct pair_cmp pairs),
      );
      takes_first = takes_alone (pair_row CLOSURE_PAIR) (members pairs);
    }

-- ---- with other rows

-- insertions into other sets leave the edges unchanged
edges_of : {S T : RbacState} {changes : List Change} → Steps putting S changes T → S.edges ≡ T.edges
edges_of {S} {T} {changes} steps = sym (edges-changes S changes) ∙ ap (λ X. X.edges) steps.leads

-- Rows are inserted, and then those of an edge that a plan of the hierarchy adds, with the pairs that the order gains.
pub turns_adding_edge :
    {S T : RbacState} {changes : List Change} (plan : Plan)
    → Steps putting S changes T → Fits S.edges plan → plan.adds ≡ true
    → Turns S (changes ++ order_puts plan.asc plan.desc plan.puts) (with_edges T (changed S.edges plan))
turns_adding_edge {S} {T} {changes} plan steps fits adds =
    let same : S.edges ≡ T.edges = edges_of steps in
    let is : changed S.edges plan ≡ insert S.edges (plan.asc, plan.desc) = changed-adds S.edges plan plan.asc plan.desc adds refl refl in
    let gained : IsGained S.edges (insert S.edges (plan.asc, plan.desc)) plan.puts = subst (λ (edges : Pairs). IsGained S.edges edges plan.puts) is fits.puts in
    let order : Turns T (order_puts plan.asc plan.desc plan.puts) (with_edges T (insert T.edges (plan.asc, plan.desc))) =
    turns_order_puts T plan.asc plan.desc plan.puts
    (subst (λ (edges : Pairs). contains edges (plan.asc, plan.desc) ≡ false) same (fits.absent adds))
    (subst (λ (edges : Pairs). IsGained edges (insert edges (plan.asc, plan.desc)) plan.puts) same gained) in
    let to : insert T.edges (plan.asc, plan.desc) ≡ changed S.edges plan = ap (λ (edges : Pairs). insert edges (plan.asc, plan.desc)) (sym same) ∙ sym is in
    turns_putting_more (putting_takes S changes steps.fits) (order_takes_nothing plan.asc plan.desc plan.puts) (turns_putting steps)
    (subst (λ (edges : Pairs). Turns T (order_puts plan.asc plan.desc plan.puts) (with_edges T edges)) to order)

-- The rows of an edge that a plan of the hierarchy removes are removed, with the pairs that the order loses, and then other
-- rows.
pub turns_taking_edge :
    {S T : RbacState} {changes : List Change} (plan : Plan)
    → Steps taking S changes T → Fits S.edges plan → plan.adds ≡ false → contains S.edges (plan.asc, plan.desc) ≡ true
    → Turns S (order_takes plan.asc plan.desc plan.takes ++ changes) (with_edges T (changed S.edges plan))
turns_taking_edge {S} {T} {changes} plan steps fits takes there =
    let is : changed S.edges plan ≡ remove S.edges (plan.asc, plan.desc) = changed-takes S.edges plan plan.asc plan.desc takes refl refl in
    let lost : IsGained (remove S.edges (plan.asc, plan.desc)) S.edges plan.takes = subst (λ (edges : Pairs). IsGained edges S.edges plan.takes) is fits.takes in
    let order : Turns S (order_takes plan.asc plan.desc plan.takes) (with_edges S (changed S.edges plan)) =
    subst (λ (edges : Pairs). Turns S (order_takes plan.asc plan.desc plan.takes) (with_edges S edges)) (sym is) (turns_order_takes S plan.asc plan.desc plan.takes there lost) in
    let rest : Steps taking (with_edges S (changed S.edges plan)) changes (with_edges T (changed S.edges plan)) = steps_with_edges (changed S.edges plan) steps in
    turns_taking_more (order_puts_nothing plan.asc plan.desc plan.takes) (taking_puts (with_edges S (changed S.edges plan)) changes rest.fits) order (turns_taking rest)
