-- What bars a role, and what doesn't.
use Rattle.std.proofs.Common.{◌≡◌, ℕ, ◌≤◌, Bool, true, false, not, ◌&&◌, ◌||◌, List, [], ◌∷◌, inl, inr, refl, sym, ◌∙◌, ap, subst, arith}
use Rattle.std.specs.Prelude.{IsTrue, nat_eq, nat_lt}
use Rattle.std.specs.List.{list_any, list_all}
use Rattle.std.specs.FinMap as finmap
use Rattle.std.specs.Cmp.{both_ways}
use Rattle.std.proofs.lemmas.Bool.{true≢false, false_from_ne_true, cases_Bool, and_parts, and_from, lt-ltb}
use Rattle.rbac_sets.specs.Sets.{Bytes, Names, Cardinality, name_cmp, cardinality_cmp, same_name, contains, insert, empty, retain, len, seconds, all, any, count}
use Rattle.rbac_sets.specs.NameOrder.{name_total, name_exact, pair_total, pair_exact, cardinality_total, cardinality_exact}
use Rattle.rbac_sets.proofs.SetLaws.{all-Decides, any-Decides, contains-insert-Decides, contains-retain, members-empty, same_set, seconds-Decides, tie_Decides}
use Rattle.rbac_sets.proofs.Members.{count-len, len-insert-le, len-subset}
use Rattle.rbac_sets.specs.declared.row.Row.{Row}
use Rattle.rbac_sets.specs.declared.row.Row.TheVariants.{NameRow, PairRow, GrantRow, SetRow, LockedRow}
use Rattle.rbac_sets.specs.declared.row.TheConstants.Row.{CLOSURE_PAIR, DYNAMIC_MEMBER, DYNAMIC_CARDINALITY}
use Rattle.rbac_sets.specs.declared.row.Change.{Change}
use Rattle.rbac_sets.specs.declared.row.Change.TheVariants.{Put, Take}
use Rattle.role_order.specs.Order.{Geq, geq, here}
use Rattle.role_order.proofs.Deciding.{geq-Decides}
use Rattle.admin_mgr.specs.RbacState.{RbacState, empty_state, members_of}
use Rattle.admin_mgr.specs.Changes.{Turns, is_put, is_taken, same_row}
use Rattle.admin_mgr.specs.Rows.{has_row, is_above}
use Rattle.admin_mgr.specs.Good.{IsGood}
use Rattle.admin_mgr.specs.UserAccess.{stands_alone}
use Rattle.admin_mgr.proofs.PlanRows.CommitLaws.{same_row-is}
use Rattle.access_index.specs.Index.{is_barred_by}
use Rattle.access_index.specs.private.Barring.{can_bar, can_bar_by, changed_row}
use Rattle.access_index.proofs.RowLaws.{and_true, or_false}

-- ---- a state without dynamic sets, and a role without juniors

pub empty_alone : (version : ℕ) (role : Bytes) → stands_alone (empty_state version) role ≡ true
unfolding stands_alone all
empty_alone version role =
    ap (list_all (λ (entry : Cardinality). nat_lt (count (geq (empty_state version).edges role) (members_of (empty_state version).dsd entry.0)) entry.1)) (members-empty cardinality_cmp)

pub empty_bars_none : (version : ℕ) (set role : Bytes) → is_barred_by (empty_state version) set role ≡ false
unfolding is_barred_by any
empty_bars_none version set role =
    ap (list_any (λ (entry : Cardinality). same_name entry.0 set && not (nat_lt (count (geq (empty_state version).edges role) (members_of (empty_state version).dsd set)) entry.1))) (members-empty cardinality_cmp)

len_one : (role : Bytes) → len (insert (empty {R = name_cmp}) role) ≤ 1
unfolding len empty insert
len_one role = omega (arith, len-insert-le name_total empty role, finmap.len-empty name_cmp (Unit {0}))

-- at most one member passes a test that only one name passes
count_one : (test : Bytes → Bool) (names : Names) (role : Bytes) → ((q : Bytes) → IsTrue (test q) → q ≡ role) → count test names ≤ 1
count_one test names role only =
    let fewer : len (retain names test) ≤ len (insert (empty {R = name_cmp}) role) = len-subset name_total name_exact (retain names test) (insert empty role) (λ q there.
    (contains-insert-Decides name_total name_exact empty role q).1 (inl (only q (and_parts _ _ (sym (contains-retain name_total name_exact names test q) ∙ there)).1))) in
    omega (arith, count-len name_total name_exact test names, fewer, len_one role)

module _ (S : RbacState) (good : IsGood S) (role : Bytes) (none : (q : Bytes) → is_above S role q ≡ false) where
  only : (q : Bytes) → IsTrue (geq S.edges role q) → q ≡ role
  only q above = elim (cases_Bool (same_name role q)) [
    | inl same ↦ sym ((tie_Decides name_total name_exact role q).0 same)
    | inr differ ↦ absurd (true≢false (sym (and_from _ _ above (ap not differ)) ∙ none q))
  ]

  pub alone_without_juniors : stands_alone S role ≡ true
  unfolding stands_alone
  alone_without_juniors =
      (all-Decides cardinality_total cardinality_exact (λ (entry : Cardinality). nat_lt (count (geq S.edges role) (members_of S.dsd entry.0)) entry.1) S.dsd.cardinalities).1
      (λ entry there. lt-ltb _ _ (omega (arith, count_one (geq S.edges role) (members_of S.dsd entry.0) role only, (good.well_formed.dsd.cardinality entry.0 entry.1 there).0)))

  pub unbarred_without_juniors : (set : Bytes) → is_barred_by S set role ≡ false
  unfolding is_barred_by
  unbarred_without_juniors set = false_from_ne_true (is_barred_by S set role) (λ is.
      let found = (any-Decides cardinality_total cardinality_exact (λ (entry : Cardinality). same_name entry.0 set && not (nat_lt (count (geq S.edges role) (members_of S.dsd set)) entry.1)) S.dsd.cardinalities).0 is in
      let entry = found.0 in
      let fewer : nat_lt (count (geq S.edges role) (members_of S.dsd set)) entry.1 ≡ true =
      lt-ltb _ _ (omega (arith, count_one (geq S.edges role) (members_of S.dsd set) role only, (good.well_formed.dsd.cardinality entry.0 entry.1 found.1).0)) in
      true≢false (sym (and_parts _ _ found.2).1 ∙ ap not fewer))

-- ---- states with the same closure pairs and dynamic sets

pub geq_same : (S : RbacState) (a b : Bytes) → a ≡ b → geq S.edges a b ≡ true
geq_same S a b same = (geq-Decides S.edges a b).1 (subst (λ x. Geq S.edges a x) same here)

-- another role is below exactly if the closure pair is there
pub above_is : (S : RbacState) (a b : Bytes) → same_name a b ≡ false → is_above S a b ≡ geq S.edges a b
above_is S a b differ = ap (λ t. geq S.edges a b && not t) differ ∙ and_true (geq S.edges a b)

module _ (S T : RbacState) (same : (row : Row) → IsTrue (can_bar row) → has_row T row ≡ has_row S row) where
  same_cardinalities : S.dsd.cardinalities ≡ T.dsd.cardinalities
  unfolding has_row
  same_cardinalities = same_set cardinality_total cardinality_exact S.dsd.cardinalities T.dsd.cardinalities (λ entry. sym (same (SetRow DYNAMIC_CARDINALITY entry.0 entry.1) refl))

  same_members : S.dsd.members ≡ T.dsd.members
  unfolding has_row
  same_members = same_set pair_total pair_exact S.dsd.members T.dsd.members (λ pair. sym (same (PairRow DYNAMIC_MEMBER pair.0 pair.1) refl))

  same_above : (a b : Bytes) → is_above T a b ≡ is_above S a b
  unfolding has_row
  same_above a b = same (PairRow CLOSURE_PAIR a b) refl

  same_geq : (a b : Bytes) → geq S.edges a b ≡ geq T.edges a b
  same_geq a b = elim (cases_Bool (same_name a b)) [
    | inl is ↦ let e = (tie_Decides name_total name_exact a b).0 is in geq_same S a b e ∙ sym (geq_same T a b e)
    | inr differ ↦ sym (above_is S a b differ) ∙ sym (same_above a b) ∙ above_is T a b differ
  ]

  pub same_alone : (role : Bytes) → stands_alone S role ≡ stands_alone T role
  unfolding stands_alone
  same_alone role = λ i. all (λ (entry : Cardinality). nat_lt (count (λ q. same_geq role q i) (seconds (same_members i) entry.0)) entry.1) (same_cardinalities i)

-- ---- states with the same closure pairs and the same dynamic set of a name

module _ (set : Bytes) (S T : RbacState) (same : (row : Row) → IsTrue (can_bar_by set row) → has_row T row ≡ has_row S row) where
  named : same_name set set ≡ true
  named = (tie_Decides name_total name_exact set set).1 refl

  same_above_by : (a b : Bytes) → is_above T a b ≡ is_above S a b
  unfolding has_row
  same_above_by a b = same (PairRow CLOSURE_PAIR a b) refl

  same_geq_by : (a b : Bytes) → geq S.edges a b ≡ geq T.edges a b
  same_geq_by a b = elim (cases_Bool (same_name a b)) [
    | inl is ↦ let e = (tie_Decides name_total name_exact a b).0 is in geq_same S a b e ∙ sym (geq_same T a b e)
    | inr differ ↦ sym (above_is S a b differ) ∙ sym (same_above_by a b) ∙ above_is T a b differ
  ]

  same_member : (q : Bytes) → contains S.dsd.members (set, q) ≡ contains T.dsd.members (set, q)
  unfolding has_row
  same_member q = sym (same (PairRow DYNAMIC_MEMBER set q) named)

  same_run : members_of S.dsd set ≡ members_of T.dsd set
  same_run = same_set name_total name_exact (seconds S.dsd.members set) (seconds T.dsd.members set) (λ q. both_ways _ _
      (λ is. (seconds-Decides T.dsd.members set q).1 (sym (same_member q) ∙ (seconds-Decides S.dsd.members set q).0 is))
      (λ is. (seconds-Decides S.dsd.members set q).1 (same_member q ∙ (seconds-Decides T.dsd.members set q).0 is)))

  same_count : (role : Bytes) → count (geq S.edges role) (members_of S.dsd set) ≡ count (geq T.edges role) (members_of T.dsd set)
  same_count role = λ i. count (λ q. same_geq_by role q i) (same_run i)

  same_entry : (entry : Cardinality) → same_name entry.0 set ≡ true → contains S.dsd.cardinalities entry ≡ contains T.dsd.cardinalities entry
  unfolding has_row
  same_entry entry is = sym (same (SetRow DYNAMIC_CARDINALITY entry.0 entry.1) is)

  pub same_barred_by : (role : Bytes) → is_barred_by S set role ≡ is_barred_by T set role
  unfolding is_barred_by
  same_barred_by role =
      let in_S = any-Decides cardinality_total cardinality_exact (λ (entry : Cardinality). same_name entry.0 set && not (nat_lt (count (geq S.edges role) (members_of S.dsd set)) entry.1)) S.dsd.cardinalities in
      let in_T = any-Decides cardinality_total cardinality_exact (λ (entry : Cardinality). same_name entry.0 set && not (nat_lt (count (geq T.edges role) (members_of T.dsd set)) entry.1)) T.dsd.cardinalities in
      both_ways _ _
      (λ is. let found = in_S.0 is in let named_so = (and_parts _ _ found.2).0 in
      in_T.1 (found.0, sym (same_entry found.0 named_so) ∙ found.1, ap (λ k. same_name found.0.0 set && not (nat_lt k found.0.1)) (sym (same_count role)) ∙ found.2))
      (λ is. let found = in_T.0 is in let named_so = (and_parts _ _ found.2).0 in
      in_S.1 (found.0, same_entry found.0 named_so ∙ found.1, ap (λ k. same_name found.0.0 set && not (nat_lt k found.0.1)) (same_count role) ∙ found.2))

-- ---- changes that bar no role

first_false : (a b : Bool) → (a || b) ≡ false → a ≡ false
first_false true b h = h
first_false false b h = refl

second_false : (a b : Bool) → (a || b) ≡ false → b ≡ false
second_false true b h = absurd (true≢false h)
second_false false b h = h

-- a row that passes a test isn't among changes of rows that don't
not_among : (test : Row → Bool) (changes : List Change) (row : Row) → list_any (λ (change : Change). test (changed_row change)) changes ≡ false → IsTrue (test row) → (is_put changes row ≡ false) × (is_taken changes row ≡ false)
unfolding is_put is_taken
not_among test [] row none bars = (refl, refl)
not_among test (Put first ∷ changes) row none bars = elim (cases_Bool (same_row first row)) [
  | inl same ↦ absurd (true≢false (sym (ap test (sym (same_row-is first row same)) ∙ bars) ∙ first_false (test first) _ none))
  | inr differ ↦ let rest = not_among test changes row (second_false (test first) _ none) bars in ((λ i. differ i || rest.0 i), rest.1)
]
not_among test (Take first ∷ changes) row none bars = elim (cases_Bool (same_row first row)) [
  | inl same ↦ absurd (true≢false (sym (ap test (sym (same_row-is first row same)) ∙ bars) ∙ first_false (test first) _ none))
  | inr differ ↦ let rest = not_among test changes row (second_false (test first) _ none) bars in (rest.0, (λ i. differ i || rest.1 i))
]

-- such changes keep which of the rows that pass the test are there
same_rows : (test : Row → Bool) (S T : RbacState) (changes : List Change) → list_any (λ (change : Change). test (changed_row change)) changes ≡ false → Turns S changes T → (row : Row) → IsTrue (test row) → has_row T row ≡ has_row S row
same_rows test S T changes none turns row bars =
    let apart = not_among test changes row none bars in
    turns.rows row ∙ (λ i. (has_row S row && not (apart.1 i)) || apart.0 i) ∙ or_false _ ∙ and_true (has_row S row)

pub unbarred_turn : (S T : RbacState) (changes : List Change) → list_any (λ (change : Change). can_bar (changed_row change)) changes ≡ false → Turns S changes T → (role : Bytes) → stands_alone S role ≡ stands_alone T role
unbarred_turn S T changes none turns = same_alone S T (same_rows can_bar S T changes none turns)

pub barred_by_turn : (set : Bytes) (S T : RbacState) (changes : List Change) → list_any (λ (change : Change). can_bar_by set (changed_row change)) changes ≡ false → Turns S changes T → (role : Bytes)
    → is_barred_by S set role ≡ is_barred_by T set role
barred_by_turn set S T changes none turns = same_barred_by set S T (same_rows (can_bar_by set) S T changes none turns)

-- changes that can bar no role can't bar one by a set
bar_less : (set : Bytes) (row : Row) → can_bar row ≡ false → can_bar_by set row ≡ false
bar_less set (PairRow kind a b) none = (λ t. first_false (nat_eq kind CLOSURE_PAIR) _ none t || (second_false (nat_eq kind CLOSURE_PAIR) _ none t && same_name a set))
bar_less set (SetRow kind a n) none = ap (λ b. b && same_name a set) none
bar_less set (NameRow kind a) none = refl
bar_less set (GrantRow a b c) none = refl
bar_less set (LockedRow a) none = refl

pub none_bar : (set : Bytes) (changes : List Change) → list_any (λ (change : Change). can_bar (changed_row change)) changes ≡ false → list_any (λ (change : Change). can_bar_by set (changed_row change)) changes ≡ false
none_bar set [] none = refl
none_bar set (change ∷ changes) none =
    (λ t. bar_less set (changed_row change) (first_false (can_bar (changed_row change)) _ none) t || none_bar set changes (second_false (can_bar (changed_row change)) _ none) t)
