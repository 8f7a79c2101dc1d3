-- How an index keeps rows when one row changes.
use Rattle.std.proofs.Common.{◌≡◌, ◌≢◌, ℕ, ◌<◌, Bool, false, not, List, [], ◌∷◌, ◌++◌, zero, suc, ◌+◌, ◌||◌, length, take, get_or, inl, inr, refl, sym, ◌∙◌, ap, subst}
use Rattle.std.specs.Prelude.{IsTrue, Option, Some, None, Result, Ok, Err, OnOk, IfSome}
use Rattle.std.proofs.lemmas.Bool.{true≢false, cases_eq, cases_Bool, false_from_ne_true}
use Rattle.admin_mgr.specs.Changes.{same_row}
use Rattle.std.proofs.lemmas.List.{take_more}
use Rattle.std.proofs.lemmas.List.Folds.{list_any-append}
use Rattle.std.specs.Str.{bytes_eq}
use Rattle.std.specs.Map.{update}
use Rattle.std.specs.HashMap.{get_by_text}
use Rattle.bit_rows.specs.declared.row.TheConstants.{WIDTH}
use Rattle.bit_rows.specs.declared.row.BitRow.{BitRow}
use Rattle.bit_rows.specs.Rows.{has}
use Rattle.rbac_sets.specs.Sets.{Bytes, Pair}
use Rattle.rbac_sets.specs.declared.row.Row.{Row}
use Rattle.rbac_sets.specs.declared.row.Row.TheVariants.{PairRow, GrantRow}
use Rattle.rbac_sets.specs.declared.row.TheConstants.Row.{ASSIGNMENT, CLOSURE_PAIR, ACTIVATED_ROLE}
use Rattle.rbac_sets.specs.declared.row.Change.TheVariants.{Put, Take}
use Rattle.admin_mgr.specs.RbacState.{empty_state}
use Rattle.admin_mgr.specs.StoredSets.{is_among}
use Rattle.admin_mgr.proofs.StateAfter.EmptyLaws.{empty_has_no_row}
use Rattle.access_index.proofs.AuthorizedLaws.{authorized_again, authorized_others, authorized_same, none_authorized}
use Rattle.access_index.proofs.BarLaws.{empty_alone, empty_bars_none}
use Rattle.access_index.specs.declared.index.AccessIndex.{AccessIndex}
use Rattle.bit_tables.specs.declared.table.BitTable.{BitTable}
use Rattle.bit_tables.specs.declared.pair_table.PairTable.{PairTable}
use Rattle.bit_tables.specs.Tables.{has_at, has_pair}
use Rattle.access_index.specs.Following.{Follow}
use Rattle.access_index.specs.Index.{AreTurned, Rows, Keeps, no_rows, rows_of, number_of, is_used, is_below, is_below_number, assigned_bits, session_bits, grant_bits, junior_bits, is_assigned, is_activated, is_granted, is_junior, row_by_set, authorized_row}
use Rattle.access_index.specs.private.Changing.{IsNowhere, rows_by}
use Rattle.bit_tables.proofs.ByName.{same_bytes, same_pair, updated_here, updated_other}
use Rattle.access_index.proofs.FollowLaws.{some-is, follow_put, follow_take, follow_more, follow_less, numbers_more, numbers_less}
use Rattle.access_index.proofs.RowLaws.{or_false, put_here, put_apart, put_other, taken_here, taken_apart, taken_other, taken_absent, pair_differs, grant_differs}

-- facts that are the same are followed too
pub follow_same : {X : Type 0} (number : Bytes → Option ℕ) (used : ℕ → Bool) (bits : X → ℕ → Bool) (fact fact' : X → Bytes → Bool) → ((x : X) (role : Bytes) → fact' x role ≡ fact x role)
    → Follow X number used bits fact → Follow X number used bits fact'
follow_same number used bits fact fact' equal follow = record {
  same = λ x role n is. follow.same x role n is ∙ sym (equal x role);
  unused = follow.unused;
  numbered = λ x role is. follow.numbered x role (sym (equal x role) ∙ is);
}

-- the numbers of the barred roles follow facts that are the same
barred_same : (number : Bytes → Option ℕ) (used : ℕ → Bool) (row : Option BitRow) (fact fact' : Bytes → Bool) → ((role : Bytes) → fact' role ≡ fact role)
    → IfSome row (λ r. Follow (Unit {0}) number used (λ _. has r) (λ _. fact)) → IfSome row (λ r. Follow (Unit {0}) number used (λ _. has r) (λ _. fact'))
barred_same number used None fact fact' equal follow = tt
barred_same number used (Some r) fact fact' equal follow = follow_same {X = Unit {0}} number used (λ _. has r) (λ _. fact) (λ _. fact') (λ _. equal) follow

-- an index keeps rows that are the same
pub keeps_same : (index : AccessIndex) (rows rows' : Rows) → ((row : Row) → rows'.stored row ≡ rows.stored row) → ((role : Bytes) → rows'.barred role ≡ rows.barred role) → ((set role : Bytes) → rows'.barred_by set role ≡ rows.barred_by set role)
    → Keeps index rows → Keeps index rows'
keeps_same index rows rows' equal barred barred_by keeps = record {
  numbers = keeps.numbers;
  assigned = follow_same (number_of index) (is_used index) (assigned_bits index) (is_assigned rows) (is_assigned rows') (λ user role. equal _) keeps.assigned;
  sessions = follow_same (number_of index) (is_used index) (session_bits index) (is_activated rows) (is_activated rows') (λ session role. equal _) keeps.sessions;
  grants = follow_same (number_of index) (is_used index) (grant_bits index) (is_granted rows) (is_granted rows') (λ permission role. equal _) keeps.grants;
  juniors = follow_same (number_of index) (is_used index) (junior_bits index) (is_junior rows) (is_junior rows') (λ senior role. equal _) keeps.juniors;
  clear = keeps.clear;
  turned = keeps.turned;
  barred = barred_same (number_of index) (is_used index) index.barred rows.barred rows'.barred barred keeps.barred;
  barred_by = λ set. barred_same (number_of index) (is_used index) (row_by_set index set) (rows.barred_by set) (rows'.barred_by set) (barred_by set) (keeps.barred_by set);
  authorized = keeps.authorized;
}

-- an index that knows less about barred roles keeps the same rows with others barred, as far as it knows them
pub keeps_forgotten : (index new : AccessIndex) (rows : Rows) (barred : Bytes → Bool) (barred_by : Bytes → Bytes → Bool) → new ≡ record index { barred = None; by_set = new.by_set }
    → ((set : Bytes) → IfSome (row_by_set new set) (λ row. (row_by_set index set ≡ Some row) × ((role : Bytes) → barred_by set role ≡ rows.barred_by set role)))
    → Keeps index rows → Keeps new (record rows { barred = barred; barred_by = barred_by })
keeps_forgotten index new rows barred barred_by same known keeps = subst (λ i. Keeps i (record rows { barred = barred; barred_by = barred_by })) (sym same) (record {
  numbers = keeps.numbers;
  assigned = keeps.assigned;
  sessions = keeps.sessions;
  grants = keeps.grants;
  juniors = keeps.juniors;
  clear = keeps.clear;
  turned = keeps.turned;
  barred = tt;
  barred_by = λ set. at set (row_by_set new set) (known set);
  authorized = keeps.authorized;
})
  where
    at : (set : Bytes) (row : Option BitRow) → IfSome row (λ r. (row_by_set index set ≡ Some r) × ((role : Bytes) → barred_by set role ≡ rows.barred_by set role))
        → IfSome row (λ r. Follow (Unit {0}) (number_of index) (is_used index) (λ _. has r) (λ _. barred_by set))
    at set None is = tt
    at set (Some r) (is, equal) =
        barred_same (number_of index) (is_used index) (Some r) (rows.barred_by set) (barred_by set) equal
        (subst (λ row. IfSome row (λ r. Follow (Unit {0}) (number_of index) (is_used index) (λ _. has r) (λ _. rows.barred_by set))) is (keeps.barred_by set))

-- an index with a row of the barred roles
pub keeps_barred : (index : AccessIndex) (rows : Rows) (row : Option BitRow) → IfSome row (λ r. Follow (Unit {0}) (number_of index) (is_used index) (λ _. has r) (λ _. rows.barred)) → Keeps index rows → Keeps (record index { barred = row }) rows
keeps_barred index rows row follow keeps = record {
  numbers = keeps.numbers;
  assigned = keeps.assigned;
  sessions = keeps.sessions;
  grants = keeps.grants;
  juniors = keeps.juniors;
  clear = keeps.clear;
  turned = keeps.turned;
  barred = follow;
  barred_by = keeps.barred_by;
  authorized = keeps.authorized;
}

-- an index with one more row of the roles that a set bars
pub keeps_counted : (index other : AccessIndex) (rows : Rows) (name : Bytes) (row : BitRow) → ((set : Bytes) → row_by_set other set ≡ update bytes_eq (row_by_set index) name (Some row) set)
    → Follow (Unit {0}) (number_of index) (is_used index) (λ _. has row) (λ _. rows.barred_by name) → Keeps index rows → Keeps (record index { by_set = other.by_set }) rows
keeps_counted index other rows name row changed follow keeps = record {
  numbers = keeps.numbers;
  assigned = keeps.assigned;
  sessions = keeps.sessions;
  grants = keeps.grants;
  juniors = keeps.juniors;
  clear = keeps.clear;
  turned = keeps.turned;
  barred = keeps.barred;
  barred_by = λ set. elim (same_bytes set name) [
    | inl same ↦
        subst (λ x. IfSome (row_by_set other x) (λ r. Follow (Unit {0}) (number_of index) (is_used index) (λ _. has r) (λ _. rows.barred_by x))) (sym same)
        (subst (λ o. IfSome o (λ r. Follow (Unit {0}) (number_of index) (is_used index) (λ _. has r) (λ _. rows.barred_by name))) (sym (updated_here (row_by_set index) (row_by_set other) name (Some row) changed)) follow)
    | inr differ ↦
        subst (λ o. IfSome o (λ r. Follow (Unit {0}) (number_of index) (is_used index) (λ _. has r) (λ _. rows.barred_by set))) (sym (updated_other (row_by_set index) (row_by_set other) name (Some row) changed set differ)) (keeps.barred_by set)
  ];
  authorized = keeps.authorized;
}

-- an index with tables that have the same rows
pub keeps_fitted : (index : AccessIndex) (rows : Rows) (assigned sessions : BitTable) (grants : PairTable) → ((user : Bytes) (n : ℕ) → has_at assigned user n ≡ has_at index.assigned user n) → ((session : Bytes) (n : ℕ) → has_at sessions session n ≡ has_at index.sessions session n)
    → ((first second : Bytes) (n : ℕ) → has_pair grants first second n ≡ has_pair index.grants first second n) → Keeps index rows → Keeps (record index { assigned = assigned; sessions = sessions; grants = grants }) rows
keeps_fitted index rows assigned sessions grants same_assigned same_sessions same_grants keeps = record {
  numbers = keeps.numbers;
  assigned = record {
    same = λ user role n at. same_assigned user n ∙ keeps.assigned.same user role n at;
    unused = λ user n out. same_assigned user n ∙ keeps.assigned.unused user n out;
    numbered = keeps.assigned.numbered;
  };
  sessions = record {
    same = λ session role n at. same_sessions session n ∙ keeps.sessions.same session role n at;
    unused = λ session n out. same_sessions session n ∙ keeps.sessions.unused session n out;
    numbered = keeps.sessions.numbered;
  };
  grants = record {
    same = λ p role n at. same_grants p.0 p.1 n ∙ keeps.grants.same p role n at;
    unused = λ p n out. same_grants p.0 p.1 n ∙ keeps.grants.unused p n out;
    numbered = keeps.grants.numbered;
  };
  juniors = keeps.juniors;
  clear = keeps.clear;
  turned = keeps.turned;
  barred = keeps.barred;
  barred_by = keeps.barred_by;
  authorized = λ user. authorized_again index assigned user (same_assigned user) (authorized_row index user) (keeps.authorized user);
}

-- ---- an assigned role

module _ (index : AccessIndex) (rows : Rows) (keeps : Keeps index rows) (session role : Bytes) (n : ℕ) (at : number_of index role ≡ Some n)
    (table : BitTable) (others : (other : Bytes) (m : ℕ) → (other ≡ session → m ≢ n) → has_at table other m ≡ has_at index.assigned other m)
    (unknown : authorized_row index session ≡ None) where
  pub keeps_put_assigned : IsTrue (has_at table session n) → Keeps (record index { assigned = table }) (rows_by rows (Put (PairRow ASSIGNMENT session role)))
  keeps_put_assigned there = record {
    numbers = keeps.numbers;
    sessions = follow_same (number_of index) (is_used index) (session_bits index) (is_activated rows) _ (λ user other. put_apart rows (PairRow ASSIGNMENT session role) _ refl) keeps.sessions;
    assigned = follow_put same_bytes same_bytes (number_of index) (is_used index) keeps.numbers (assigned_bits index) (has_at table) (is_assigned rows) (is_assigned (rows_by rows (Put (PairRow ASSIGNMENT session role)))) session role n at others
        (λ y other differ. put_other rows (PairRow ASSIGNMENT session role) (PairRow ASSIGNMENT y other) (pair_differs ASSIGNMENT session role y other differ))
        there (put_here rows (PairRow ASSIGNMENT session role)) keeps.assigned;
    grants = follow_same (number_of index) (is_used index) (grant_bits index) (is_granted rows) _ (λ permission other. put_apart rows (PairRow ASSIGNMENT session role) _ refl) keeps.grants;
    juniors = follow_same (number_of index) (is_used index) (junior_bits index) (is_junior rows) _ (λ senior other. put_apart rows (PairRow ASSIGNMENT session role) _ refl) keeps.juniors;
    clear = keeps.clear;
    turned = keeps.turned;
    barred = keeps.barred;
    barred_by = keeps.barred_by;
    authorized = authorized_others index table session unknown (λ other m differ. others other m (λ same. absurd (differ same))) keeps.authorized;
  }

  pub keeps_take_assigned : has_at table session n ≡ false → Keeps (record index { assigned = table }) (rows_by rows (Take (PairRow ASSIGNMENT session role)))
  keeps_take_assigned gone = record {
    numbers = keeps.numbers;
    sessions = follow_same (number_of index) (is_used index) (session_bits index) (is_activated rows) _ (λ user other. taken_apart rows (PairRow ASSIGNMENT session role) _ refl) keeps.sessions;
    assigned = follow_take same_bytes same_bytes (number_of index) (is_used index) keeps.numbers (assigned_bits index) (has_at table) (is_assigned rows) (is_assigned (rows_by rows (Take (PairRow ASSIGNMENT session role)))) session role n at others
        (λ y other differ. taken_other rows (PairRow ASSIGNMENT session role) (PairRow ASSIGNMENT y other) (pair_differs ASSIGNMENT session role y other differ))
        gone (taken_here rows (PairRow ASSIGNMENT session role)) keeps.assigned;
    grants = follow_same (number_of index) (is_used index) (grant_bits index) (is_granted rows) _ (λ permission other. taken_apart rows (PairRow ASSIGNMENT session role) _ refl) keeps.grants;
    juniors = follow_same (number_of index) (is_used index) (junior_bits index) (is_junior rows) _ (λ senior other. taken_apart rows (PairRow ASSIGNMENT session role) _ refl) keeps.juniors;
    clear = keeps.clear;
    turned = keeps.turned;
    barred = keeps.barred;
    barred_by = keeps.barred_by;
    authorized = authorized_others index table session unknown (λ other m differ. others other m (λ same. absurd (differ same))) keeps.authorized;
  }

-- ---- an activated role

module _ (index : AccessIndex) (rows : Rows) (keeps : Keeps index rows) (session role : Bytes) (n : ℕ) (at : number_of index role ≡ Some n)
    (table : BitTable) (others : (other : Bytes) (m : ℕ) → (other ≡ session → m ≢ n) → has_at table other m ≡ has_at index.sessions other m) where
  pub keeps_put_activated : IsTrue (has_at table session n) → Keeps (record index { sessions = table }) (rows_by rows (Put (PairRow ACTIVATED_ROLE session role)))
  keeps_put_activated there = record {
    numbers = keeps.numbers;
    assigned = follow_same (number_of index) (is_used index) (assigned_bits index) (is_assigned rows) _ (λ user other. put_apart rows (PairRow ACTIVATED_ROLE session role) _ refl) keeps.assigned;
    sessions = follow_put same_bytes same_bytes (number_of index) (is_used index) keeps.numbers (session_bits index) (has_at table) (is_activated rows) (is_activated (rows_by rows (Put (PairRow ACTIVATED_ROLE session role)))) session role n at others
        (λ y other differ. put_other rows (PairRow ACTIVATED_ROLE session role) (PairRow ACTIVATED_ROLE y other) (pair_differs ACTIVATED_ROLE session role y other differ))
        there (put_here rows (PairRow ACTIVATED_ROLE session role)) keeps.sessions;
    grants = follow_same (number_of index) (is_used index) (grant_bits index) (is_granted rows) _ (λ permission other. put_apart rows (PairRow ACTIVATED_ROLE session role) _ refl) keeps.grants;
    juniors = follow_same (number_of index) (is_used index) (junior_bits index) (is_junior rows) _ (λ senior other. put_apart rows (PairRow ACTIVATED_ROLE session role) _ refl) keeps.juniors;
    clear = keeps.clear;
    turned = keeps.turned;
    barred = keeps.barred;
    barred_by = keeps.barred_by;
    authorized = keeps.authorized;
  }

  pub keeps_take_activated : has_at table session n ≡ false → Keeps (record index { sessions = table }) (rows_by rows (Take (PairRow ACTIVATED_ROLE session role)))
  keeps_take_activated gone = record {
    numbers = keeps.numbers;
    assigned = follow_same (number_of index) (is_used index) (assigned_bits index) (is_assigned rows) _ (λ user other. taken_apart rows (PairRow ACTIVATED_ROLE session role) _ refl) keeps.assigned;
    sessions = follow_take same_bytes same_bytes (number_of index) (is_used index) keeps.numbers (session_bits index) (has_at table) (is_activated rows) (is_activated (rows_by rows (Take (PairRow ACTIVATED_ROLE session role)))) session role n at others
        (λ y other differ. taken_other rows (PairRow ACTIVATED_ROLE session role) (PairRow ACTIVATED_ROLE y other) (pair_differs ACTIVATED_ROLE session role y other differ))
        gone (taken_here rows (PairRow ACTIVATED_ROLE session role)) keeps.sessions;
    grants = follow_same (number_of index) (is_used index) (grant_bits index) (is_granted rows) _ (λ permission other. taken_apart rows (PairRow ACTIVATED_ROLE session role) _ refl) keeps.grants;
    juniors = follow_same (number_of index) (is_used index) (junior_bits index) (is_junior rows) _ (λ senior other. taken_apart rows (PairRow ACTIVATED_ROLE session role) _ refl) keeps.juniors;
    clear = keeps.clear;
    turned = keeps.turned;
    barred = keeps.barred;
    barred_by = keeps.barred_by;
    authorized = keeps.authorized;
  }

-- ---- a grant

module _ (index : AccessIndex) (rows : Rows) (keeps : Keeps index rows) (object operation role : Bytes) (n : ℕ) (at : number_of index role ≡ Some n)
    (table : PairTable) (others : (a b : Bytes) (m : ℕ) → (a ≡ object → b ≡ operation → m ≢ n) → has_pair table a b m ≡ has_pair index.grants a b m) where
  bits_others : (p : Pair) (m : ℕ) → (p ≡ (object, operation) → m ≢ n) → has_pair table p.0 p.1 m ≡ grant_bits index p m
  bits_others p m differ = others p.0 p.1 m (λ first second. differ (λ i. (first i, second i)))

  pub keeps_put_grant : IsTrue (has_pair table object operation n) → Keeps (record index { grants = table }) (rows_by rows (Put (GrantRow object operation role)))
  keeps_put_grant there = record {
    numbers = keeps.numbers;
    assigned = follow_same (number_of index) (is_used index) (assigned_bits index) (is_assigned rows) _ (λ user other. put_apart rows (GrantRow object operation role) _ refl) keeps.assigned;
    sessions = follow_same (number_of index) (is_used index) (session_bits index) (is_activated rows) _ (λ session other. put_apart rows (GrantRow object operation role) _ refl) keeps.sessions;
    grants = follow_put same_bytes same_pair (number_of index) (is_used index) keeps.numbers (grant_bits index) (λ p m. has_pair table p.0 p.1 m) (is_granted rows) (is_granted (rows_by rows (Put (GrantRow object operation role)))) (object, operation) role n at bits_others
        (λ y other differ. put_other rows (GrantRow object operation role) (GrantRow y.0 y.1 other) (grant_differs (object, operation) role y other differ))
        there (put_here rows (GrantRow object operation role)) keeps.grants;
    juniors = follow_same (number_of index) (is_used index) (junior_bits index) (is_junior rows) _ (λ senior other. put_apart rows (GrantRow object operation role) _ refl) keeps.juniors;
    clear = keeps.clear;
    turned = keeps.turned;
    barred = keeps.barred;
    barred_by = keeps.barred_by;
    authorized = keeps.authorized;
  }

  pub keeps_take_grant : has_pair table object operation n ≡ false → Keeps (record index { grants = table }) (rows_by rows (Take (GrantRow object operation role)))
  keeps_take_grant gone = record {
    numbers = keeps.numbers;
    assigned = follow_same (number_of index) (is_used index) (assigned_bits index) (is_assigned rows) _ (λ user other. taken_apart rows (GrantRow object operation role) _ refl) keeps.assigned;
    sessions = follow_same (number_of index) (is_used index) (session_bits index) (is_activated rows) _ (λ session other. taken_apart rows (GrantRow object operation role) _ refl) keeps.sessions;
    grants = follow_take same_bytes same_pair (number_of index) (is_used index) keeps.numbers (grant_bits index) (λ p m. has_pair table p.0 p.1 m) (is_granted rows) (is_granted (rows_by rows (Take (GrantRow object operation role)))) (object, operation) role n at bits_others
        (λ y other differ. taken_other rows (GrantRow object operation role) (GrantRow y.0 y.1 other) (grant_differs (object, operation) role y other differ))
        gone (taken_here rows (GrantRow object operation role)) keeps.grants;
    juniors = follow_same (number_of index) (is_used index) (junior_bits index) (is_junior rows) _ (λ senior other. taken_apart rows (GrantRow object operation role) _ refl) keeps.juniors;
    clear = keeps.clear;
    turned = keeps.turned;
    barred = keeps.barred;
    barred_by = keeps.barred_by;
    authorized = keeps.authorized;
  }

-- ---- a closure pair

module _ (index new : AccessIndex) (rows : Rows) (keeps : Keeps index rows) (senior junior : Bytes) (i j : ℕ) (at_senior : number_of index senior ≡ Some i) (at_junior : number_of index junior ≡ Some j)
    (others : (k m : ℕ) → (k ≡ i → m ≢ j) → is_below new.juniors.items k m ≡ is_below index.juniors.items k m) (turned : AreTurned new.juniors.items new.seniors.items)
    (unknown : (user : Bytes) → authorized_row index user ≡ None) where
  new_bits : Bytes → ℕ → Bool
  new_bits x m = is_below_number new.juniors.items (number_of index x) m

  -- the bits by the number of a name
  at_number : (number : Option ℕ) (m : ℕ) → ((k : ℕ) → number ≡ Some k → k ≡ i → m ≢ j) → is_below_number new.juniors.items number m ≡ is_below_number index.juniors.items number m
  at_number None m differ = refl
  at_number (Some k) m differ = others k m (differ k refl)

  junior_others : (x : Bytes) (m : ℕ) → (x ≡ senior → m ≢ j) → new_bits x m ≡ junior_bits index x m
  unfolding new_bits
  junior_others x m differ = at_number (number_of index x) m (λ k is same. differ (keeps.numbers.one_role x senior i (is ∙ ap (λ n. Some n) same) at_senior))

  bit_at_senior : is_below_number new.juniors.items (number_of index senior) j ≡ is_below new.juniors.items i j
  bit_at_senior = ap (λ number. is_below_number new.juniors.items number j) at_senior

  clear_others : (k m : ℕ) → is_used index k ≡ false → is_below new.juniors.items k m ≡ false
  clear_others k m is = others k m (λ same. absurd (true≢false (sym (keeps.numbers.is_used senior i at_senior) ∙ ap (is_used index) (sym same) ∙ is))) ∙ keeps.clear k m is

  pub keeps_put_junior : IsTrue (is_below new.juniors.items i j) → Keeps (record index { juniors = new.juniors; seniors = new.seniors }) (rows_by rows (Put (PairRow CLOSURE_PAIR senior junior)))
  unfolding new_bits
  keeps_put_junior there = record {
    numbers = keeps.numbers;
    assigned = follow_same (number_of index) (is_used index) (assigned_bits index) (is_assigned rows) _ (λ user other. put_apart rows (PairRow CLOSURE_PAIR senior junior) _ refl) keeps.assigned;
    sessions = follow_same (number_of index) (is_used index) (session_bits index) (is_activated rows) _ (λ session other. put_apart rows (PairRow CLOSURE_PAIR senior junior) _ refl) keeps.sessions;
    grants = follow_same (number_of index) (is_used index) (grant_bits index) (is_granted rows) _ (λ permission other. put_apart rows (PairRow CLOSURE_PAIR senior junior) _ refl) keeps.grants;
    juniors = follow_put same_bytes same_bytes (number_of index) (is_used index) keeps.numbers (junior_bits index) new_bits (is_junior rows) (is_junior (rows_by rows (Put (PairRow CLOSURE_PAIR senior junior)))) senior junior j at_junior junior_others
        (λ y other differ. put_other rows (PairRow CLOSURE_PAIR senior junior) (PairRow CLOSURE_PAIR y other) (pair_differs CLOSURE_PAIR senior junior y other differ))
        (bit_at_senior ∙ there) (put_here rows (PairRow CLOSURE_PAIR senior junior)) keeps.juniors;
    clear = clear_others;
    turned = turned;
    barred = keeps.barred;
    barred_by = keeps.barred_by;
    authorized = none_authorized index (record index { juniors = new.juniors; seniors = new.seniors }) unknown;
  }

  pub keeps_take_junior : is_below new.juniors.items i j ≡ false → Keeps (record index { juniors = new.juniors; seniors = new.seniors }) (rows_by rows (Take (PairRow CLOSURE_PAIR senior junior)))
  unfolding new_bits
  keeps_take_junior gone = record {
    numbers = keeps.numbers;
    assigned = follow_same (number_of index) (is_used index) (assigned_bits index) (is_assigned rows) _ (λ user other. taken_apart rows (PairRow CLOSURE_PAIR senior junior) _ refl) keeps.assigned;
    sessions = follow_same (number_of index) (is_used index) (session_bits index) (is_activated rows) _ (λ session other. taken_apart rows (PairRow CLOSURE_PAIR senior junior) _ refl) keeps.sessions;
    grants = follow_same (number_of index) (is_used index) (grant_bits index) (is_granted rows) _ (λ permission other. taken_apart rows (PairRow CLOSURE_PAIR senior junior) _ refl) keeps.grants;
    juniors = follow_take same_bytes same_bytes (number_of index) (is_used index) keeps.numbers (junior_bits index) new_bits (is_junior rows) (is_junior (rows_by rows (Take (PairRow CLOSURE_PAIR senior junior)))) senior junior j at_junior junior_others
        (λ y other differ. taken_other rows (PairRow CLOSURE_PAIR senior junior) (PairRow CLOSURE_PAIR y other) (pair_differs CLOSURE_PAIR senior junior y other differ))
        (bit_at_senior ∙ gone) (taken_here rows (PairRow CLOSURE_PAIR senior junior)) keeps.juniors;
    clear = clear_others;
    turned = turned;
    barred = keeps.barred;
    barred_by = keeps.barred_by;
    authorized = none_authorized index (record index { juniors = new.juniors; seniors = new.seniors }) unknown;
  }

-- ---- a row that the index doesn't have, and a take of what has no number

-- the row is none of those that the index keeps
pub record IsOther (row : Row) : Type 0 where
  pub assigned : (user role : Bytes) → same_row row (PairRow ASSIGNMENT user role) ≡ false
  pub activated : (session role : Bytes) → same_row row (PairRow ACTIVATED_ROLE session role) ≡ false
  pub granted : (object operation role : Bytes) → same_row row (GrantRow object operation role) ≡ false
  pub junior : (senior role : Bytes) → same_row row (PairRow CLOSURE_PAIR senior role) ≡ false

module _ (index : AccessIndex) (rows rows' : Rows) (keeps : Keeps index rows) where
  -- the index keeps rows that have the same assignments, activated roles, grants and closure pairs, and the same barred roles
  pub keeps_alike : ((user role : Bytes) → is_assigned rows' user role ≡ is_assigned rows user role) → ((session role : Bytes) → is_activated rows' session role ≡ is_activated rows session role)
      → ((p : Pair) (role : Bytes) → is_granted rows' p role ≡ is_granted rows p role) → ((senior role : Bytes) → is_junior rows' senior role ≡ is_junior rows senior role)
      → ((role : Bytes) → rows'.barred role ≡ rows.barred role) → ((set role : Bytes) → rows'.barred_by set role ≡ rows.barred_by set role) → Keeps index rows'
  keeps_alike assigned sessions grants juniors barred barred_by = record {
    numbers = keeps.numbers;
    assigned = follow_same (number_of index) (is_used index) (assigned_bits index) (is_assigned rows) (is_assigned rows') assigned keeps.assigned;
    sessions = follow_same (number_of index) (is_used index) (session_bits index) (is_activated rows) (is_activated rows') sessions keeps.sessions;
    grants = follow_same (number_of index) (is_used index) (grant_bits index) (is_granted rows) (is_granted rows') grants keeps.grants;
    juniors = follow_same (number_of index) (is_used index) (junior_bits index) (is_junior rows) (is_junior rows') juniors keeps.juniors;
    clear = keeps.clear;
    turned = keeps.turned;
    barred = barred_same (number_of index) (is_used index) index.barred rows.barred rows'.barred barred keeps.barred;
    barred_by = λ set. barred_same (number_of index) (is_used index) (row_by_set index set) (rows.barred_by set) (rows'.barred_by set) (barred_by set) (keeps.barred_by set);
    authorized = keeps.authorized;
  }

pub keeps_put_other : (index : AccessIndex) (rows : Rows) → Keeps index rows → (row : Row) → IsOther row → Keeps index (rows_by rows (Put row))
keeps_put_other index rows keeps row other =
    keeps_alike index rows (rows_by rows (Put row)) keeps
    (λ user role. put_apart rows row (PairRow ASSIGNMENT user role) (other.assigned user role))
    (λ session role. put_apart rows row (PairRow ACTIVATED_ROLE session role) (other.activated session role))
    (λ p role. put_apart rows row (GrantRow p.0 p.1 role) (other.granted p.0 p.1 role))
    (λ senior role. put_apart rows row (PairRow CLOSURE_PAIR senior role) (other.junior senior role))
    (λ role. refl) (λ set role. refl)

pub keeps_take_other : (index : AccessIndex) (rows : Rows) → Keeps index rows → (row : Row) → IsOther row → Keeps index (rows_by rows (Take row))
keeps_take_other index rows keeps row other =
    keeps_alike index rows (rows_by rows (Take row)) keeps
    (λ user role. taken_apart rows row (PairRow ASSIGNMENT user role) (other.assigned user role))
    (λ session role. taken_apart rows row (PairRow ACTIVATED_ROLE session role) (other.activated session role))
    (λ p role. taken_apart rows row (GrantRow p.0 p.1 role) (other.granted p.0 p.1 role))
    (λ senior role. taken_apart rows row (PairRow CLOSURE_PAIR senior role) (other.junior senior role))
    (λ role. refl) (λ set role. refl)

-- a row that isn't there is taken
pub keeps_take_absent : (index : AccessIndex) (rows : Rows) → Keeps index rows → (row : Row) → rows.stored row ≡ false → Keeps index (rows_by rows (Take row))
keeps_take_absent index rows keeps row absent = keeps_same index rows (rows_by rows (Take row)) (taken_absent rows row absent) (λ role. refl) (λ set role. refl) keeps

-- a role without a number is assigned to no user, activated in no session, granted nothing, and no junior of a role
module _ (index : AccessIndex) (rows : Rows) (keeps : Keeps index rows) (role : Bytes) (none : number_of index role ≡ None) where
  no_number : (n : ℕ) → number_of index role ≡ Some n → ⊥
  no_number n is = let clash : None ≡ Some n = sym none ∙ is in cc

  pub not_assigned : (user : Bytes) → is_assigned rows user role ≡ false
  not_assigned user = false_from_ne_true (is_assigned rows user role) (λ is. let at = keeps.assigned.numbered user role is in no_number at.0 at.1)

  pub not_activated : (session : Bytes) → is_activated rows session role ≡ false
  not_activated session = false_from_ne_true (is_activated rows session role) (λ is. let at = keeps.sessions.numbered session role is in no_number at.0 at.1)

  pub not_granted : (p : Pair) → is_granted rows p role ≡ false
  not_granted p = false_from_ne_true (is_granted rows p role) (λ is. let at = keeps.grants.numbered p role is in no_number at.0 at.1)

  pub not_junior : (senior : Bytes) → is_junior rows senior role ≡ false
  not_junior senior = false_from_ne_true (is_junior rows senior role) (λ is. let at = keeps.juniors.numbered senior role is in no_number at.0 at.1)

  -- and it is no senior of a role that has a number
  pub not_senior : (junior : Bytes) (n : ℕ) → number_of index junior ≡ Some n → is_junior rows role junior ≡ false
  not_senior junior n at = sym (keeps.juniors.same role junior n at) ∙ ap (λ number. is_below_number index.juniors.items number n) none

  -- a role that has no number is a senior of none
  pub absent_senior : (junior : Bytes) → is_junior rows role junior ≡ false
  absent_senior junior = by (number_of index junior) refl
    where
      by : (number : Option ℕ) → number_of index junior ≡ number → is_junior rows role junior ≡ false
      by None at = false_from_ne_true (is_junior rows role junior) (λ is. let found = keeps.juniors.numbered role junior is in let clash : None ≡ Some found.0 = sym at ∙ found.1 in cc)
      by (Some n) at = not_senior junior n at

-- ---- rows of bits

-- an empty row at the end changes nothing
pub below_push : (rows : List BitRow) (row : BitRow) → ((n : ℕ) → has row n ≡ false) → (i j : ℕ) → is_below (rows ++ row ∷ []) i j ≡ is_below rows i j
below_push [] row none zero j = none j
below_push [] row none (suc i) j = refl
below_push (first ∷ rows) row none zero j = refl
below_push (first ∷ rows) row none (suc i) j = below_push rows row none i j

-- what two facts of a call that succeeds give
pub on_both : {X E : Type 0} (r : Result X E) (P Q R : Type 0) → (P → Q → R) → OnOk r P → OnOk r Q → OnOk r R
on_both (Ok x) P Q R third first second = third first second
on_both (Err e) P Q R third first second = tt

pub on_three : {X E : Type 0} (r : Result X E) (P Q R W : Type 0) → (P → Q → R → W) → OnOk r P → OnOk r Q → OnOk r R → OnOk r W
on_three (Ok x) P Q R W all first second third = all first second third
on_three (Err e) P Q R W all first second third = tt

pub on_four : {X E : Type 0} (r : Result X E) (P Q R W V : Type 0) → (P → Q → R → W → V) → OnOk r P → OnOk r Q → OnOk r R → OnOk r W → OnOk r V
on_four (Ok x) P Q R W V all first second third fourth = all first second third fourth
on_four (Err e) P Q R W V all first second third fourth = tt

-- ---- numbers

-- a role gets a number
module _ (index new : AccessIndex) (rows : Rows) (keeps : Keeps index rows) (role : Bytes) (n : ℕ) (none : number_of index role ≡ None) (free : is_used index n ≡ false) (within : n < WIDTH)
    (here : number_of new role ≡ Some n) (others : (other : Bytes) → other ≢ role → number_of new other ≡ number_of index other)
    (put : IsTrue (is_used new n)) (kept : (m : ℕ) → m ≢ n → is_used new m ≡ is_used index m)
    (same_assigned : new.assigned ≡ index.assigned) (same_sessions : new.sessions ≡ index.sessions) (same_grants : new.grants ≡ index.grants)
    (same_juniors : new.juniors ≡ index.juniors) (same_seniors : new.seniors ≡ index.seniors) (same_barred : new.barred ≡ index.barred) (same_by_set : new.by_set ≡ index.by_set)
    (same_authorized : new.authorized ≡ index.authorized) where
  bits_at : (x : Bytes) (m : ℕ) → is_below_number index.juniors.items (number_of new x) m ≡ junior_bits index x m
  bits_at x m = elim (same_bytes x role) [
    | inl same ↦
        ap (λ number. is_below_number index.juniors.items number m) (ap (number_of new) same ∙ here)
        ∙ keeps.clear n m free
        ∙ sym (ap (λ number. is_below_number index.juniors.items number m) (ap (number_of index) same ∙ none))
    | inr differ ↦ ap (λ number. is_below_number index.juniors.items number m) (others x differ)
  ]

  turned_same : AreTurned new.juniors.items new.seniors.items
  turned_same i j = ap (λ v. is_below v.items j i) same_seniors ∙ keeps.turned i j ∙ sym (ap (λ v. is_below v.items i j) same_juniors)

  barred_more : (fact : Bytes → Bool) (row row' : Option BitRow) → row ≡ row' → IfSome row (λ r. Follow (Unit {0}) (number_of index) (is_used index) (λ _. has r) (λ _. fact))
      → IfSome row' (λ r. Follow (Unit {0}) (number_of new) (is_used new) (λ _. has r) (λ _. fact))
  barred_more fact None None same follow = tt
  barred_more fact None (Some r) same follow = let clash : None ≡ Some r = same in cc
  barred_more fact (Some r) None same follow = let clash : Some r ≡ None = same in cc
  barred_more fact (Some r) (Some r') same follow =
      follow_more same_bytes (number_of index) (number_of new) (is_used index) (is_used new) role n none free within here others put kept {X = Unit {0}} (λ _. has r) (λ _. has r') (λ _. fact)
      (λ _ m. ap (λ row. has row m) (sym (some-is r r' same))) follow

  pub keeps_numbered : Keeps new rows
  keeps_numbered =
      let more = λ (X : Type 0). follow_more same_bytes (number_of index) (number_of new) (is_used index) (is_used new) role n none free within here others put kept {X = X} in
      record {
        numbers = numbers_more same_bytes (number_of index) (number_of new) (is_used index) (is_used new) role n none free within here others put kept keeps.numbers;
        assigned = more Bytes (assigned_bits index) (assigned_bits new) (is_assigned rows) (λ x m. ap (λ t. has_at t x m) same_assigned) keeps.assigned;
        sessions = more Bytes (session_bits index) (session_bits new) (is_activated rows) (λ x m. ap (λ t. has_at t x m) same_sessions) keeps.sessions;
        grants = more Pair (grant_bits index) (grant_bits new) (is_granted rows) (λ x m. ap (λ t. has_pair t x.0 x.1 m) same_grants) keeps.grants;
        juniors = more Bytes (junior_bits index) (junior_bits new) (is_junior rows) (λ x m. ap (λ v. is_below_number v.items (number_of new x) m) same_juniors ∙ bits_at x m) keeps.juniors;
        clear = λ k m is. ap (λ v. is_below v.items k m) same_juniors ∙ keeps.clear k m (unused_before k is);
        turned = turned_same;
        barred = barred_more rows.barred index.barred new.barred (sym same_barred) keeps.barred;
        barred_by = λ set. barred_more (rows.barred_by set) (row_by_set index set) (row_by_set new set) (ap (λ sets. get_by_text sets set) (sym same_by_set)) (keeps.barred_by set);
        authorized = authorized_same index new same_assigned same_juniors same_authorized keeps.authorized;
      }
    where
      unused_before : (m : ℕ) → is_used new m ≡ false → is_used index m ≡ false
      unused_before m is = sym (kept m (λ same. true≢false (sym put ∙ ap (is_used new) (sym same) ∙ is))) ∙ is

-- the number of a role that no row has is freed
module _ (index new : AccessIndex) (rows : Rows) (keeps : Keeps index rows) (role : Bytes) (nowhere : IsNowhere rows role) (n : ℕ) (at : number_of index role ≡ Some n)
    (gone : number_of new role ≡ None) (others : (other : Bytes) → other ≢ role → number_of new other ≡ number_of index other)
    (free : is_used new n ≡ false) (kept : (m : ℕ) → m ≢ n → is_used new m ≡ is_used index m)
    (same_assigned : new.assigned ≡ index.assigned) (same_sessions : new.sessions ≡ index.sessions) (same_grants : new.grants ≡ index.grants)
    (same_juniors : new.juniors ≡ index.juniors) (same_seniors : new.seniors ≡ index.seniors) (same_barred : new.barred ≡ index.barred) (same_by_set : new.by_set ≡ index.by_set)
    (same_authorized : new.authorized ≡ index.authorized) where
  -- the role has no juniors, so its row is empty
  own_row : (m : ℕ) → is_below index.juniors.items n m ≡ false
  own_row m = elim (cases_Bool (is_used index m)) [
    | inl is ↦
        let owner = keeps.numbers.has_role m is in
        sym (ap (λ number. is_below_number index.juniors.items number m) at) ∙ keeps.juniors.same role owner.0 m owner.1 ∙ nowhere.senior owner.0
    | inr out ↦ sym (ap (λ number. is_below_number index.juniors.items number m) at) ∙ keeps.juniors.unused role m out
  ]

  freed_bits_at : (x : Bytes) (m : ℕ) → is_below_number index.juniors.items (number_of new x) m ≡ junior_bits index x m
  freed_bits_at x m = elim (same_bytes x role) [
    | inl same ↦
        ap (λ number. is_below_number index.juniors.items number m) (ap (number_of new) same ∙ gone)
        ∙ sym (ap (λ number. is_below_number index.juniors.items number m) (ap (number_of index) same ∙ at) ∙ own_row m)
    | inr differ ↦ ap (λ number. is_below_number index.juniors.items number m) (others x differ)
  ]

  freed_turned : AreTurned new.juniors.items new.seniors.items
  freed_turned i j = ap (λ v. is_below v.items j i) same_seniors ∙ keeps.turned i j ∙ sym (ap (λ v. is_below v.items i j) same_juniors)

  barred_less : (fact : Bytes → Bool) → fact role ≡ false → (row row' : Option BitRow) → row ≡ row' → IfSome row (λ r. Follow (Unit {0}) (number_of index) (is_used index) (λ _. has r) (λ _. fact))
      → IfSome row' (λ r. Follow (Unit {0}) (number_of new) (is_used new) (λ _. has r) (λ _. fact))
  barred_less fact not_role None None same follow = tt
  barred_less fact not_role None (Some r) same follow = let clash : None ≡ Some r = same in cc
  barred_less fact not_role (Some r) None same follow = let clash : Some r ≡ None = same in cc
  barred_less fact not_role (Some r) (Some r') same follow =
      follow_less same_bytes (number_of index) (number_of new) (is_used index) (is_used new) role n at gone others free kept {X = Unit {0}} (λ _. has r) (λ _. has r') (λ _. fact)
      (λ _ m. ap (λ row. has row m) (sym (some-is r r' same))) (λ _. not_role) follow

  pub keeps_freed : Keeps new rows
  keeps_freed =
      let less = λ (X : Type 0). follow_less same_bytes (number_of index) (number_of new) (is_used index) (is_used new) role n at gone others free kept {X = X} in
      record {
        numbers = numbers_less same_bytes (number_of index) (number_of new) (is_used index) (is_used new) role n at gone others free kept keeps.numbers;
        assigned = less Bytes (assigned_bits index) (assigned_bits new) (is_assigned rows) (λ x m. ap (λ t. has_at t x m) same_assigned) nowhere.assigned keeps.assigned;
        sessions = less Bytes (session_bits index) (session_bits new) (is_activated rows) (λ x m. ap (λ t. has_at t x m) same_sessions) nowhere.activated keeps.sessions;
        grants = less Pair (grant_bits index) (grant_bits new) (is_granted rows) (λ x m. ap (λ t. has_pair t x.0 x.1 m) same_grants) nowhere.granted keeps.grants;
        juniors = less Bytes (junior_bits index) (junior_bits new) (is_junior rows) (λ x m. ap (λ v. is_below_number v.items (number_of new x) m) same_juniors ∙ freed_bits_at x m) nowhere.junior keeps.juniors;
        clear = λ k m is. ap (λ v. is_below v.items k m) same_juniors ∙ elim (cases_eq k n) [
          | inl same ↦ ap (λ i. is_below index.juniors.items i m) same ∙ own_row m
          | inr differ ↦ keeps.clear k m (sym (kept k differ) ∙ is)
        ];
        turned = freed_turned;
        barred = barred_less rows.barred nowhere.barred index.barred new.barred (sym same_barred) keeps.barred;
        barred_by = λ set. barred_less (rows.barred_by set) (nowhere.barred_by set) (row_by_set index set) (row_by_set new set) (ap (λ sets. get_by_text sets set) (sym same_by_set)) (keeps.barred_by set);
        authorized = authorized_same index new same_assigned same_juniors same_authorized keeps.authorized;
      }

-- the empty index keeps no rows
pub keeps_none : (index : AccessIndex) → ((role : Bytes) → number_of index role ≡ None) → ((n : ℕ) → is_used index n ≡ false) → ((user : Bytes) (n : ℕ) → assigned_bits index user n ≡ false)
    → ((session : Bytes) (n : ℕ) → session_bits index session n ≡ false) → ((p : Pair) (n : ℕ) → grant_bits index p n ≡ false) → ((i j : ℕ) → is_below index.juniors.items i j ≡ false)
    → ((i j : ℕ) → is_below index.seniors.items i j ≡ false) → IfSome index.barred (λ row. (n : ℕ) → has row n ≡ false) → ((set : Bytes) → row_by_set index set ≡ None)
    → ((user : Bytes) → authorized_row index user ≡ None) → Keeps index no_rows
keeps_none index numbers used assigned sessions grants juniors seniors barred by_set authorized =
    record {
      numbers = record {
        within = λ role n is. absurd (no role n is);
        is_used = λ role n is. absurd (no role n is);
        one_role = λ a b n is_a is_b. absurd (no a n is_a);
        has_role = λ n is. absurd (true≢false (sym is ∙ used n));
      };
      assigned = nothing {X = Bytes} (assigned_bits index) assigned;
      sessions = nothing {X = Bytes} (session_bits index) sessions;
      grants = nothing {X = Pair} (grant_bits index) grants;
      juniors = nothing {X = Bytes} (junior_bits index) (λ x n. ap (λ number. is_below_number index.juniors.items number n) (numbers x));
      clear = λ i j is. juniors i j;
      turned = λ i j. seniors j i ∙ sym (juniors i j);
      barred = empty_row index.barred barred;
      barred_by = λ set. subst (λ row. IfSome row (λ r. Follow (Unit {0}) (number_of index) (is_used index) (λ _. has r) (λ _ role. false))) (sym (by_set set)) tt;
      authorized = none_authorized index index authorized;
    }
  where
    no : (role : Bytes) (n : ℕ) → number_of index role ≡ Some n → ⊥
    no role n is = let clash : None ≡ Some n = sym (numbers role) ∙ is in cc

    nothing : {X : Type 0} (bits : X → ℕ → Bool) → ((x : X) (n : ℕ) → bits x n ≡ false) → Follow X (number_of index) (is_used index) bits (λ x role. false)
    nothing bits none = record { same = λ x role n is. absurd (no role n is); unused = λ x n is. none x n; numbered = λ x role is. absurd (true≢false (sym is)) }

    empty_row : (row : Option BitRow) → IfSome row (λ r. (n : ℕ) → has r n ≡ false) → IfSome row (λ r. Follow (Unit {0}) (number_of index) (is_used index) (λ _. has r) (λ _ role. false))
    empty_row None none = tt
    empty_row (Some r) none = nothing {X = Unit {0}} (λ _. has r) (λ _. none)

-- it is the index of a state without rows
pub keeps_empty : (index : AccessIndex) → Keeps index no_rows → (version : ℕ) → Keeps index (rows_of (empty_state version))
keeps_empty index keeps version = keeps_same index no_rows (rows_of (empty_state version)) (λ row. empty_has_no_row version row) (λ role. ap not (empty_alone version role)) (empty_bars_none version) keeps

-- ---- rows put one after the other

-- rows by a list of them, of which no role is barred
abbrev pub among : List Row → Rows
among rows = record { stored = is_among rows; barred = λ role. false; barred_by = λ set role. false }

-- the index keeps the rows up to a place, and with the row there those up to the next
pub keeps_more : (index : AccessIndex) (rows : List Row) (i : ℕ) (row : Row) → i < length rows → row ≡ get_or rows i row → Keeps index (rows_by (among (take i rows)) (Put row)) → Keeps index (among (take (i + 1) rows))
keeps_more index rows i row within is keeps =
    keeps_same index (rows_by (among (take i rows)) (Put row)) (among (take (i + 1) rows))
    (λ other.
    ap (λ l. is_among l other) (take_more rows i row within)
    ∙ list_any-append (λ (r : Row). same_row r other) (take i rows) (get_or rows i row ∷ [])
    ∙ ap (λ b. is_among (take i rows) other || b) (or_false (same_row (get_or rows i row) other) ∙ ap (λ r. same_row r other) (sym is)))
    (λ role. refl) (λ set role. refl) keeps
