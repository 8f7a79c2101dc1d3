-- The rows after the changes of a plan are those of the state that it leads to.
use Rattle.std.proofs.Common.{◌≡◌, ◌≢◌, ℕ, zero, suc, ◌+◌, ◌<◌, Bool, true, false, not, ◌&&◌, ◌||◌, List, [], ◌∷◌, ◌++◌, length, take, get_or, ◌⊎◌, inl, inr, refl, sym, ◌∙◌, ap, arith}
use Rattle.std.specs.Prelude.{IsTrue}
use Rattle.std.proofs.lemmas.Bool.{true≢false, false_from_ne_true, and_parts, or_left, or_right, or_cases}
use Rattle.std.proofs.lemmas.List.Folds.{list_any-append}
use Rattle.std.specs.List.{list_any}
use Rattle.std.proofs.lemmas.List.{take_more}
use Rattle.rbac_sets.specs.Sets.{Bytes, contains, same_name}
use Rattle.rbac_sets.specs.NameOrder.{name_total, name_exact}
use Rattle.rbac_sets.proofs.SetLaws.{tie_Decides}
use Rattle.rbac_sets.specs.declared.row.Row.{Row}
use Rattle.rbac_sets.specs.declared.row.Row.TheVariants.{NameRow}
use Rattle.rbac_sets.specs.declared.row.TheConstants.Row.{ROLE}
use Rattle.rbac_sets.specs.declared.row.Change.{Change}
use Rattle.rbac_sets.specs.declared.row.Change.TheVariants.{Put, Take}
use Rattle.role_order.specs.Order.{Geq, here, step, geq}
use Rattle.role_order.proofs.Deciding.{geq-Decides}
use Rattle.admin_mgr.specs.RbacState.{RbacState}
use Rattle.admin_mgr.specs.Rows.{has_row, is_above}
use Rattle.admin_mgr.specs.Changes.{same_row, takes, is_put, is_taken, TakesFirst, Turns}
use Rattle.admin_mgr.specs.Good.{IsWellFormed}
use Rattle.admin_mgr.proofs.PlanRows.CommitLaws.{same_row-self, same_row-is}
use Rattle.access_index.proofs.RowLaws.{or_false}
use Rattle.access_index.specs.Index.{Rows}
use Rattle.access_index.specs.private.Changing.{IsNowhere, rows_by, rows_after}

take_first : (among same taken put : Bool) → (((among && not same) && not taken) || put) ≡ ((among && not (same || taken)) || put)
take_first true true taken put = refl
take_first true false taken put = refl
take_first false same taken put = refl

put_first : (among same taken put : Bool) → taken ≡ false → (((among || same) && not taken) || put) ≡ ((among && not taken) || (same || put))
put_first among same true put none = absurd (true≢false none)
put_first true same false put none = refl
put_first false true false put none = refl
put_first false false false put none = refl

-- a row is there after the changes exactly if it was and isn't taken, or is put
pub rows_after_are : (changes : List Change) (rows : Rows) (row : Row) → TakesFirst changes → (rows_after rows changes).stored row ≡ ((rows.stored row && not (is_taken changes row)) || is_put changes row)
unfolding is_taken is_put
rows_after_are [] rows row takes = by (rows.stored row)
  where
    by : (b : Bool) → b ≡ ((b && true) || false)
    by true = refl
    by false = refl
rows_after_are (Take first ∷ changes) rows row takes =
    rows_after_are changes (rows_by rows (Take first)) row takes
    ∙ take_first (rows.stored row) (same_row first row) (is_taken changes row) (is_put changes row)
rows_after_are (Put first ∷ changes) rows row takes =
    rows_after_are changes (rows_by rows (Put first)) row takes.1
    ∙ put_first (rows.stored row) (same_row first row) (is_taken changes row) (is_put changes row) (takes.0 row)

pub rows_of_plan : (S T : RbacState) (changes : List Change) → Turns S changes T → (barred : Bytes → Bool) (barred_by : Bytes → Bytes → Bool) (row : Row)
    → has_row T row ≡ (rows_after (record { stored = has_row S; barred = barred; barred_by = barred_by }) changes).stored row
rows_of_plan S T changes turns barred barred_by row = turns.rows row ∙ sym (rows_after_are changes (record { stored = has_row S; barred = barred; barred_by = barred_by }) row turns.takes_first)

-- changes don't say which roles are barred
pub barred_after : (changes : List Change) (rows : Rows) → (rows_after rows changes).barred ≡ rows.barred
barred_after [] rows = refl
barred_after (Put row ∷ changes) rows = barred_after changes (rows_by rows (Put row))
barred_after (Take row ∷ changes) rows = barred_after changes (rows_by rows (Take row))

pub barred_by_after : (changes : List Change) (rows : Rows) → (rows_after rows changes).barred_by ≡ rows.barred_by
barred_by_after [] rows = refl
barred_by_after (Put row ∷ changes) rows = barred_by_after changes (rows_by rows (Put row))
barred_by_after (Take row ∷ changes) rows = barred_by_after changes (rows_by rows (Take row))

-- a role that is taken is gone
pub taken_gone : (S T : RbacState) (changes : List Change) → Turns S changes T → (row : Row) → is_taken changes row ≡ true → has_row T row ≡ false
taken_gone S T changes turns row taken =
    let there : has_row S row ≡ true = turns.there row taken in
    let no_put : is_put changes row ≡ false = false_from_ne_true (is_put changes row) (λ put. true≢false (sym there ∙ turns.absent row put)) in
    turns.rows row ∙ (λ i. (there i && not (taken i)) || no_put i)

-- ---- a role that isn't there is in no row

leads_from : (S : RbacState) → IsWellFormed S → (a b : Bytes) → Geq S.edges a b → a ≢ b → IsTrue (contains S.roles a)
leads_from S well_formed a b here differ = absurd (differ refl)
leads_from S well_formed a b (step {b = next} edge rest) differ = (well_formed.edges a next edge).0

leads_to : (S : RbacState) → IsWellFormed S → (a b : Bytes) → Geq S.edges a b → IsTrue (contains S.roles a) → IsTrue (contains S.roles b)
leads_to S well_formed a b here is_role = is_role
leads_to S well_formed a b (step {b = next} edge rest) is_role = leads_to S well_formed next b rest (well_formed.edges a next edge).1

-- a role above another, or below one, is a role
above_is_role : (S : RbacState) → IsWellFormed S → (a b : Bytes) → is_above S a b ≡ true → IsTrue (contains S.roles a) × IsTrue (contains S.roles b)
above_is_role S well_formed a b above =
    let parts = and_parts (geq S.edges a b) (not (same_name a b)) above in
    let leads = (geq-Decides S.edges a b).0 parts.0 in
    let differ : a ≢ b = λ same. true≢false (sym parts.1 ∙ ap not ((tie_Decides name_total name_exact a b).1 same)) in
    let first = leads_from S well_formed a b leads differ in
    (first, leads_to S well_formed a b leads first)

-- a role that isn't there has no juniors
pub no_junior : (S : RbacState) → IsWellFormed S → (role : Bytes) → has_row S (NameRow ROLE role) ≡ false → (junior : Bytes) → is_above S role junior ≡ false
unfolding has_row
no_junior S well_formed role gone junior = false_from_ne_true (is_above S role junior) (λ is. true≢false (sym (above_is_role S well_formed role junior is).0 ∙ gone))

pub nowhere : (S : RbacState) → IsWellFormed S → (role : Bytes) → has_row S (NameRow ROLE role) ≡ false → (barred : Bytes → Bool) (barred_by : Bytes → Bytes → Bool) → barred role ≡ false → ((set : Bytes) → barred_by set role ≡ false)
    → IsNowhere (record { stored = has_row S; barred = barred; barred_by = barred_by }) role
unfolding has_row
nowhere S well_formed role gone barred barred_by stands by_none =
    let none : IsTrue (contains S.roles role) → ⊥ = λ is. true≢false (sym is ∙ gone) in
    record {
      assigned = λ user. false_from_ne_true (contains S.assignments (user, role)) (λ is. none (well_formed.assignments user role is).1);
      activated = λ session. false_from_ne_true (contains S.active (session, role)) (λ is. none (well_formed.active session role is));
      granted = λ p. false_from_ne_true (contains S.grants (p.0, p.1, role)) (λ is. none (well_formed.grants p.0 p.1 role is).1);
      senior = λ junior. false_from_ne_true (is_above S role junior) (λ is. none (above_is_role S well_formed role junior is).0);
      junior = λ senior. false_from_ne_true (is_above S senior role) (λ is. none (above_is_role S well_formed senior role is).1);
      barred = stands;
      barred_by = by_none;
    }

-- ---- one change after another

-- the rows after one more change
pub rows_after_more : (rows : Rows) (changes : List Change) (i : ℕ) (change : Change) → i < length changes → change ≡ get_or changes i change → rows_after rows (take (i + 1) changes) ≡ rows_by (rows_after rows (take i changes)) change
rows_after_more rows changes i change within is = ap (rows_after rows) (take_more changes i change within ∙ ap (λ x. take i changes ++ x ∷ []) (sym is)) ∙ rows_after_push rows (take i changes) change
  where
    rows_after_push : (rows : Rows) (changes : List Change) (change : Change) → rows_after rows (changes ++ change ∷ []) ≡ rows_by (rows_after rows changes) change
    rows_after_push rows [] change = refl
    rows_after_push rows (first ∷ changes) change = rows_after_push (rows_by rows first) changes change

-- a change of the list that takes a row
pub taken_at : (changes : List Change) (i : ℕ) (row : Row) (d : Change) → i < length changes → get_or changes i d ≡ Take row → is_taken changes row ≡ true
unfolding is_taken
taken_at [] i row d within is = absurd (omega (arith, within))
taken_at (change ∷ changes) zero row d within is = or_left _ _ (ap (λ c. takes c row) is ∙ same_row-self row)
taken_at (change ∷ changes) (suc i) row d within is = or_right _ _ (taken_at changes i row d (omega (arith, within)) is)

-- a row that is taken by one more change is taken by this change or an earlier one
pub taken_more : (changes : List Change) (i : ℕ) (change : Change) (row : Row) → i < length changes → change ≡ get_or changes i change → is_taken (take (i + 1) changes) row ≡ true
    → (change ≡ Take row) ⊎ (is_taken (take i changes) row ≡ true)
unfolding is_taken
taken_more changes i change row within is taken =
    let all = ap (list_any (λ c. takes c row)) (take_more changes i change within) ∙ list_any-append (λ c. takes c row) (take i changes) (get_or changes i change ∷ []) in
    elim (or_cases (list_any (λ c. takes c row) (take i changes)) (takes (get_or changes i change) row || false) (sym all ∙ taken)) [
      | inl earlier ↦ inr earlier
      | inr last ↦ inl (takes-is change row (ap (λ c. takes c row) is ∙ sym (or_false (takes (get_or changes i change) row)) ∙ last))
    ]
  where
    takes-is : (change : Change) (row : Row) → takes change row ≡ true → change ≡ Take row
    takes-is (Put other) row h = absurd (true≢false (sym h))
    takes-is (Take other) row h = ap (λ r. Take r) (sym (same_row-is other row h))

-- no change takes nothing
pub none_taken : (row : Row) → is_taken [] row ≡ true → ⊥
unfolding is_taken
none_taken row h = true≢false (sym h)

pub role-is : (a b : Bytes) → Take (NameRow ROLE a) ≡ Take (NameRow ROLE b) → a ≡ b
role-is a b e = cc
