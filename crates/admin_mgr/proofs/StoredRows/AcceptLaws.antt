-- The rows of a good state pass every check.
use Rattle.std.proofs.Common.{◌≡◌, ℕ, ◌<◌, ◌≤◌, Bool, true, false, not, ◌&&◌, List, [], ◌∷◌, refl, sym, ◌∙◌, ap, subst, inl, inr, arith}
use Rattle.std.specs.Prelude.{IsTrue, nat_eq, is_some}
use Rattle.std.specs.List.{list_any, list_all}
use Rattle.std.proofs.lemmas.Bool.{or_cases, or_left, or_right, and_parts, and_from, eqb-true, eq-eqb, cases_lt, true≢false, false_from_ne_true}
use Rattle.rbac_sets.specs.Sets.{Bytes, Pair, Pairs, name_cmp, contains, same_name}
use Rattle.rbac_sets.specs.NameOrder.{name_total, name_exact, pair_total, pair_exact, cardinality_total, cardinality_exact}
use Rattle.rbac_sets.proofs.SetLaws.{any-Decides, contains-empty, same_set, tie_Decides}
use Rattle.rbac_sets.specs.declared.row.Row.{Row}
use Rattle.rbac_sets.specs.declared.row.Row.TheVariants.{NameRow, PairRow, GrantRow, SetRow, LockedRow}
use Rattle.rbac_sets.specs.declared.row.TheConstants.Row.{INHERITANCE, CLOSURE_PAIR}
use Rattle.rbac_sets.specs.declared.refusal.Refusal.{Refusal}
use Rattle.rbac_sets.specs.declared.refusal.Refusal.TheVariants.{TooMany, Memory, Damaged}
use Rattle.rbac_sets.specs.Table.{table_of}
use Rattle.role_order.specs.Order.{HasPair, geq, IsClosure}
use Rattle.role_order.proofs.Leading.{first_step, last_step}
use Rattle.admin_mgr.specs.RbacState.{RbacState, has_session}
use Rattle.admin_mgr.specs.Rows.{has_row}
use Rattle.admin_mgr.specs.Changes.{same_row}
use Rattle.admin_mgr.specs.Good.{IsGood}
use Rattle.admin_mgr.specs.StoredSets.{StoredSets, gathered, is_known, is_among, same_key, HaveKeysOnce}
use Rattle.admin_mgr.specs.RowChecks.{Choose, AreReadable, AreRowsOf, OccurOnce, GoodRowsAreRead, IsComplete, Passes, RefusesSets, RefusesRows}
use Rattle.admin_mgr.specs.StateLaws.{GoodRowsAreReadable}
use Rattle.admin_mgr.proofs.PlanRows.RowLaws.{rows_determine}
use Rattle.admin_mgr.proofs.StoredRows.KeyLaws.{known_sets, pairs_among}
use Rattle.admin_mgr.proofs.StoredRows.WithinLimits.{no_limit_passed}
use Rattle.admin_mgr.proofs.StoredRows.StoredLaws.{apart_and_above, unknown_name, unknown_pair, unknown_set, rows_are_among}
use Rattle.admin_mgr.proofs.StoredRows.CheckLaws.{PassBefore, before_two, before_next}
use Rattle.admin_mgr.proofs.PlanRows.CommitLaws.{same_row-self}

-- all rows pass if each one does
all_from : (p : Row → Bool) (rows : List Row) → ((row : Row) → is_among rows row ≡ true → p row ≡ true) → list_all p rows ≡ true
all_from p [] each = refl
all_from p (first ∷ rows) each = and_from _ _ (each first (or_left _ _ (same_row-self first))) (all_from p rows (λ row h. each row (or_right _ _ h)))

-- ---- the rows of a good state are readable

-- a test that does not fail holds
yes_or : (b : Bool) → (b ≡ false → ⊥) → b ≡ true
yes_or true h = refl
yes_or false h = absurd (h refl)

-- a row of a good state is known
known_of_good : (S : RbacState) → IsGood S → (row : Row) → has_row S row ≡ true → is_known S.version row ≡ true
unfolding has_row
known_of_good S good (NameRow k x) there = yes_or _ (λ unknown. true≢false (sym there ∙ unknown_name S k x unknown))
known_of_good S good (PairRow k x y) there = yes_or _ (λ unknown. true≢false (sym there ∙ unknown_pair S k x y unknown))
known_of_good S good (GrantRow x y z) there = refl
known_of_good S good (SetRow k x n) there = yes_or _ (λ unknown. true≢false (sym there ∙ unknown_set S k x n unknown))
known_of_good S good (LockedRow x) there =
    ap not (false_from_ne_true (nat_eq S.version 1) (λ first. true≢false (sym there ∙ ap (λ s. contains s x) (good.no_locks (eqb-true S.version 1 first)) ∙ contains-empty name_cmp x)))

-- a set of a good state has one cardinality
one_number : (S : RbacState) → IsGood S → (k : ℕ) (a : Bytes) (m n : ℕ) → has_row S (SetRow k a m) ≡ true → has_row S (SetRow k a n) ≡ true → m ≡ n
unfolding has_row
one_number S good k a m n here there =
    let known : is_some (table_of (SetRow k a m)) ≡ true = yes_or _ (λ unknown. true≢false (sym here ∙ unknown_set S k a m unknown)) in
    known_sets (λ i. has_row S (SetRow i a m) ≡ true → has_row S (SetRow i a n) ≡ true → m ≡ n)
    (good.well_formed.ssd.one_cardinality a m n) (good.well_formed.dsd.one_cardinality a m n) k a m known here there

-- a row with the key of a set's cardinality is another cardinality of the set, or the same row
same_set_found : (k : ℕ) (a : Bytes) (m : ℕ) (rows : List Row) → list_any (λ (other : Row). same_key (SetRow k a m) other) rows ≡ true →
    (n : ℕ) × (is_among rows (SetRow k a n) ≡ true) × (m ≡ n → list_any (λ (other : Row). same_row (SetRow k a m) other) rows ≡ true)
same_set_found k a m [] h = absurd (true≢false (sym h))
same_set_found k a m (SetRow l x j ∷ rows) h = elim (or_cases (nat_eq k l && same_name x a) (list_any (λ (other : Row). same_key (SetRow k a m) other) rows) h) [
  | inl here ↦
      let parts = and_parts (nat_eq k l) (same_name x a) here in
      let kind : k ≡ l = eqb-true k l parts.0 in
      let name : x ≡ a = (tie_Decides name_total name_exact x a).0 parts.1 in (
        j,
        or_left _ _ (and_from _ _ (eq-eqb l k (sym kind)) ((tie_Decides cardinality_total cardinality_exact (a, j) (x, j)).1 (λ i. (sym name i, j)))),
        λ same. or_left _ _ (and_from _ _ parts.0 ((tie_Decides cardinality_total cardinality_exact (x, j) (a, m)).1 (λ i. (name i, sym same i)))),
      )
  | inr later ↦ let found = same_set_found k a m rows later in (found.0, or_right _ _ found.1, λ same. or_right _ _ (found.2 same))
]
same_set_found k a m (_ ∷ rows) h = same_set_found k a m rows h

-- a row of a good state that occurs once has a key of its own
key_once : (S : RbacState) → IsGood S → (row : Row) (rows : List Row) → has_row S row ≡ true → ((other : Row) → is_among rows other ≡ true → has_row S other ≡ true) →
    list_any (λ (other : Row). same_row row other) rows ≡ false → list_any (λ (other : Row). same_key row other) rows ≡ false
key_once S good (SetRow k a m) rows here there free = false_from_ne_true _ (λ h.
    (let found = same_set_found k a m rows h in
    true≢false (sym (found.2 (one_number S good k a m found.0 here (there (SetRow k a found.0) found.1))) ∙ free)))
key_once S good _ rows here there free = free

-- so keys occur once
keys_once : (S : RbacState) → IsGood S → (rows : List Row) → ((row : Row) → is_among rows row ≡ true → has_row S row ≡ true) → OccurOnce rows → HaveKeysOnce rows
keys_once S good [] there once = tt
keys_once S good (first ∷ rows) there once = (
  key_once S good first rows (there first (or_left _ _ (same_row-self first))) (λ row h. there row (or_right _ _ h)) once.0,
  keys_once S good rows (λ row h. there row (or_right _ _ h)) once.1,
)

-- and the rows are readable
pub readable_of_good : GoodRowsAreReadable
readable_of_good S rows good are = record {
  known = all_from (is_known S.version) rows (λ row h. known_of_good S good row (are.rows_are row ∙ h));
  keys = keys_once S good rows (λ row h. are.rows_are row ∙ h) are.once;
}

-- ---- they make the state

module _ (S : RbacState) (rows : List Row) (are : AreRowsOf S rows) where
  -- they make the edges of the state
  same_edges : (gathered S.version rows).facts.edges ≡ S.edges
  unfolding gathered has_row
  same_edges = same_set pair_total pair_exact _ _ (λ pair. pairs_among INHERITANCE rows pair.0 pair.1 ∙ sym (are.rows_are (PairRow INHERITANCE pair.0 pair.1)))

  -- they have the pair of each role with each of its juniors
  stored_pair : (a b : Bytes) → contains (gathered S.version rows).pairs (a, b) ≡ (geq S.edges a b && not (same_name a b))
  unfolding gathered has_row
  stored_pair a b = pairs_among CLOSURE_PAIR rows a b ∙ sym (are.rows_are (PairRow CLOSURE_PAIR a b))

  -- and these are the closure
  same_closure : IsClosure (gathered S.version rows).facts.edges (gathered S.version rows).pairs
  same_closure = subst (λ (edges : Pairs). IsClosure edges (gathered S.version rows).pairs) (sym same_edges) (λ a b.
      (λ h. (apart_and_above S.edges a b).0 (sym (stored_pair a b) ∙ h), λ h. stored_pair a b ∙ (apart_and_above S.edges a b).1 h))

  -- they make the state
  same_facts : AreReadable S.version rows → (gathered S.version rows).facts ≡ S
  unfolding gathered
  same_facts readable = rows_determine (gathered S.version rows).facts S refl (λ row. rows_are_among S.version rows readable.known same_closure row ∙ sym (are.rows_are row))

-- ---- they pass the checks

-- what a good state refers to is there
complete_of_good : (g : StoredSets) → IsGood g.facts → IsClosure g.facts.edges g.pairs → IsComplete g
complete_of_good g good closed =
    let formed = good.well_formed in
    let pairs : (a b : Bytes) → IsTrue (contains g.pairs (a, b)) → IsTrue (contains g.facts.roles a) × IsTrue (contains g.facts.roles b) = λ a b there.
    let above = (closed a b).0 there in (
      elim (first_step (HasPair g.facts.edges) above.1) [
        | inl same ↦ absurd (above.0 same)
        | inr way ↦ (formed.edges a way.0 way.1).0
      ],
      elim (last_step (HasPair g.facts.edges) above.1) [
        | inl same ↦ absurd (above.0 same)
        | inr way ↦ (formed.edges way.0 b way.1).1
      ],
    ) in
    let active : (session role : Bytes) → IsTrue (contains g.facts.active (session, role)) → IsTrue (has_session g.facts session) × IsTrue (contains g.facts.roles role) = λ session role there.
    let owner = formed.owned session role there in (
      (any-Decides pair_total pair_exact (λ (pair : Pair). same_name pair.0 session) g.facts.sessions).1 ((session, owner.0), owner.1, (tie_Decides name_total name_exact session session).1 refl),
      formed.active session role there,
    ) in
    assumption

-- a good state passes each check
passes_of_good : (g : StoredSets) → IsGood g.facts → IsClosure g.facts.edges g.pairs → PassBefore g 12
passes_of_good g good closed =
    before_next g 11 (before_next g 10 (before_next g 9 (before_next g 8 (before_next g 7 (before_next g 6 (before_next g 5 (before_next g 4 (before_next g 3 (before_next g 2 (before_two g)
    good.limits)
    (complete_of_good g good closed))
    good.well_formed.one_owner)
    good.acyclic)
    closed)
    (good.well_formed.ssd.cardinality, good.well_formed.dsd.cardinality))
    good.authorized)
    good.static_separation)
    good.dynamic_separation)
    good.unlocked

-- ---- so they are not refused

-- if the test fails the second statement is left
skipped : (b : Bool) (Then Else : Type 0) → b ≡ false → Else → Choose b Then Else
skipped true Then Else h e = absurd (true≢false h)
skipped false Then Else h e = e

-- numbers of which one is less differ
other_number : (n k : ℕ) → k < n → nat_eq n k ≡ false
other_number n k less = false_from_ne_true _ (λ h. (let same = eqb-true n k h in absurd (omega (arith, less, same))))

-- there is no check of a higher number
no_later_check : (g : StoredSets) (n : ℕ) → 12 ≤ n → Passes g n
no_later_check g n late =
    skipped (nat_eq n 2) _ _ (other_number n 2 (omega (arith, late)))
    (skipped (nat_eq n 3) _ _ (other_number n 3 (omega (arith, late)))
    (skipped (nat_eq n 4) _ _ (other_number n 4 (omega (arith, late)))
    (skipped (nat_eq n 5) _ _ (other_number n 5 (omega (arith, late)))
    (skipped (nat_eq n 6) _ _ (other_number n 6 (omega (arith, late)))
    (skipped (nat_eq n 7) _ _ (other_number n 7 (omega (arith, late)))
    (skipped (nat_eq n 8) _ _ (other_number n 8 (omega (arith, late)))
    (skipped (nat_eq n 9) _ _ (other_number n 9 (omega (arith, late)))
    (skipped (nat_eq n 10) _ _ (other_number n 10 (omega (arith, late)))
    (skipped (nat_eq n 11) _ _ (other_number n 11 (omega (arith, late))) tt)))))))))

-- so every check passes
passes_all : (g : StoredSets) → PassBefore g 12 → (n : ℕ) → Passes g n
passes_all g before n = elim (cases_lt n 12) [ inl less ↦ before n less | inr late ↦ no_later_check g n late ]

-- the rows of a good state are only refused with `Memory`
pub good_rows_are_read : GoodRowsAreRead
good_rows_are_read S rows refusal good are told = by refusal told
  where
    readable : AreReadable S.version rows
    readable = readable_of_good S rows good are

    passes : PassBefore (gathered S.version rows) 12
    passes = passes_of_good (gathered S.version rows) (subst IsGood (sym (same_facts S rows are readable)) good) (same_closure S rows are)

    damaged : (n : ℕ) (b : Bool) → Choose b (AreReadable S.version rows → ⊥) (AreReadable S.version rows × RefusesSets (gathered S.version rows) (Damaged n)) → ⊥
    damaged n true unreadable = unreadable readable
    damaged n false refused = refused.1.1.failed (passes_all (gathered S.version rows) passes n)

    by : (refusal : Refusal) → RefusesRows S.version rows refusal → refusal ≡ Memory
    by Memory told = refl
    by (Damaged n) told = absurd (damaged n (nat_eq n 1) told)
    by (TooMany kind) told = absurd (no_limit_passed (gathered S.version rows).facts kind (passes 2 (omega arith)) told.1)
    by _ told = absurd told.1
