-- Changes that lead from one state to another turn the rows of the first into those of the second.
use Rattle.std.proofs.Common.{◌≡◌, Bool, true, false, not, ◌&&◌, ◌||◌, List, [], ◌∷◌, ◌++◌, refl, sym, ◌∙◌, ap, subst, inl, inr}
use Rattle.std.specs.Prelude.{nat_eq, if◌then◌else◌}
use Rattle.std.proofs.lemmas.Bool.{or_cases, or_left, or_right, and_parts, and_from, not-true, true≢false, false_from_ne_true}
use Rattle.std.proofs.lemmas.List.Folds.{list_any-append}
use Rattle.rbac_sets.specs.Sets.{contains, same_name}
use Rattle.role_order.specs.Order.{geq}
use Rattle.rbac_sets.specs.declared.row.Row.{Row}
use Rattle.rbac_sets.specs.declared.row.Row.TheVariants.{NameRow, PairRow, GrantRow, SetRow, LockedRow}
use Rattle.rbac_sets.specs.declared.row.TheConstants.Row.{USER, ROLE, OBJECT, PERMISSION, ASSIGNMENT, INHERITANCE, CLOSURE_PAIR, STATIC_MEMBER, DYNAMIC_MEMBER, SESSION, ACTIVATED_ROLE, STATIC_CARDINALITY, DYNAMIC_CARDINALITY}
use Rattle.rbac_sets.specs.declared.row.Change.{Change}
use Rattle.rbac_sets.specs.declared.row.Change.TheVariants.{Put, Take}
use Rattle.admin_mgr.specs.RbacState.{RbacState}
use Rattle.admin_mgr.specs.Rows.{has_row}
use Rattle.admin_mgr.specs.Changes.{same_row, is_put, is_taken, puts, takes, IsOnce, TakesFirst, Turns}
use Rattle.admin_mgr.specs.private.OneRow.{is_plain, with_row, without_row, after_changes}
use Rattle.admin_mgr.proofs.PlanRows.ChangeLaws.{has_row-with, has_row-without, has_row-changes}
use Rattle.admin_mgr.proofs.PlanRows.CommitLaws.{same_row-is, same_row-self, edges-changes, version-changes}
use Rattle.admin_mgr.proofs.PlanRows.StepLaws.Way.{taking, putting}
use Rattle.admin_mgr.proofs.PlanRows.StepLaws.{AreFitting, Steps}

-- ---- rows that don't change one by one

-- a choice by three tests doesn't depend on their results if none holds
three : (a b c p q r s t u : Bool) → (a || b || c) ≡ false → (if a then p else if b then q else if c then r else false) ≡ (if a then s else if b then t else if c then u else false)
three false false false p q r s t u h = refl
three a b c p q r s t u h = cc

-- the same for two tests
two : (a b p q s t : Bool) → (a || b) ≡ false → (if a then p else if b then q else false) ≡ (if a then s else if b then t else false)
two false false p q s t h = refl
two a b p q s t h = cc

-- the same for eight tests, of which the third and the fourth have equal results
eight :
    (a b c d e f g k p q r s t u v w p' q' t' u' v' w' : Bool)
    → (a || b || e || f || g || k) ≡ false
    → (if a then p else if b then q else if c then r else if d then s else if e then t else if f then u else if g then v else if k then w else false)
    ≡ (if a then p' else if b then q' else if c then r else if d then s else if e then t' else if f then u' else if g then v' else if k then w' else false)
eight false false true d e f g k p q r s t u v w p' q' t' u' v' w' h = refl
eight false false false true e f g k p q r s t u v w p' q' t' u' v' w' h = refl
eight false false false false false false false false p q r s t u v w p' q' t' u' v' w' h = refl
eight a b c d e f g k p q r s t u v w p' q' t' u' v' w' h = cc

-- they depend only on the edges
pub has_row-edges : (S T : RbacState) (row : Row) → is_plain row ≡ false → S.edges ≡ T.edges → has_row S row ≡ has_row T row
unfolding has_row
has_row-edges S T (NameRow k x) other edges = three (nat_eq k USER) (nat_eq k ROLE) (nat_eq k OBJECT) _ _ _ _ _ _ other
has_row-edges S T (PairRow k x y) other edges =
    (λ i. if nat_eq k PERMISSION then contains S.permissions (x, y) else if nat_eq k ASSIGNMENT then contains S.assignments (x, y) else if nat_eq k INHERITANCE then contains (edges i) (x, y) else if nat_eq k CLOSURE_PAIR then geq (edges i) x y && not (same_name x y)
    else if nat_eq k STATIC_MEMBER then contains S.ssd.members (x, y) else if nat_eq k DYNAMIC_MEMBER then contains S.dsd.members (x, y) else if nat_eq k SESSION then contains S.sessions (x, y) else if nat_eq k ACTIVATED_ROLE then contains S.active (x, y) else false)
    ∙ eight (nat_eq k PERMISSION) (nat_eq k ASSIGNMENT) (nat_eq k INHERITANCE) (nat_eq k CLOSURE_PAIR) (nat_eq k STATIC_MEMBER) (nat_eq k DYNAMIC_MEMBER) (nat_eq k SESSION) (nat_eq k ACTIVATED_ROLE) _ _ _ _ _ _ _ _ _ _ _ _ _ _ other
has_row-edges S T (GrantRow x y z) other edges = cc
has_row-edges S T (SetRow k x n) other edges = two (nat_eq k STATIC_CARDINALITY) (nat_eq k DYNAMIC_CARDINALITY) _ _ _ _ other
has_row-edges S T (LockedRow x) other edges = cc

-- ---- changes that only remove, and changes that only insert

-- removals insert nothing
pub taking_puts : (S : RbacState) (changes : List Change) → AreFitting taking S changes → (row : Row) → is_put changes row ≡ false
unfolding is_put
taking_puts S [] fits row = refl
taking_puts S (Put first ∷ changes) fits row = absurd fits.0
taking_puts S (Take first ∷ changes) fits row = taking_puts (without_row S first) changes fits.1 row

-- insertions remove nothing
pub putting_takes : (S : RbacState) (changes : List Change) → AreFitting putting S changes → (row : Row) → is_taken changes row ≡ false
unfolding is_taken
putting_takes S [] fits row = refl
putting_takes S (Take first ∷ changes) fits row = absurd fits.0
putting_takes S (Put first ∷ changes) fits row = putting_takes (with_row S first) changes fits.1 row

-- what removals remove is of a set that changes row by row, and is there
taken_there : (S : RbacState) (changes : List Change) → AreFitting taking S changes → (row : Row) → is_taken changes row ≡ true → (is_plain row ≡ true) × (has_row S row ≡ true)
unfolding is_taken
taken_there S [] fits row h = absurd (true≢false (sym h))
taken_there S (Put first ∷ changes) fits row h = absurd fits.0
taken_there S (Take first ∷ changes) fits row h = elim (or_cases (same_row first row) (is_taken changes row) h) [
  | inl same ↦ subst (λ (other : Row). (is_plain other ≡ true) × (has_row S other ≡ true)) (sym (same_row-is first row same)) fits.0
  | inr later ↦
      let rest = taken_there (without_row S first) changes fits.1 row later in
      (rest.0, (and_parts _ _ (sym (has_row-without S first row rest.0) ∙ rest.1)).0)
]

-- what insertions insert is of a set that changes row by row, and isn't there
put_absent : (S : RbacState) (changes : List Change) → AreFitting putting S changes → (row : Row) → is_put changes row ≡ true → (is_plain row ≡ true) × (has_row S row ≡ false)
unfolding is_put
put_absent S [] fits row h = absurd (true≢false (sym h))
put_absent S (Take first ∷ changes) fits row h = absurd fits.0
put_absent S (Put first ∷ changes) fits row h = elim (or_cases (same_row first row) (is_put changes row) h) [
  | inl same ↦ subst (λ (other : Row). (is_plain other ≡ true) × (has_row S other ≡ false)) (sym (same_row-is first row same)) fits.0
  | inr later ↦
      let rest = put_absent (with_row S first) changes fits.1 row later in
      (rest.0, false_from_ne_true (has_row S row) (λ there. true≢false (sym (or_left _ _ there) ∙ sym (has_row-with S first row rest.0) ∙ rest.1)))
]

-- removals remove each row once
taken_once : (S : RbacState) (changes : List Change) → AreFitting taking S changes → IsOnce changes
taken_once S [] fits = tt
taken_once S (Put first ∷ changes) fits = absurd fits.0
taken_once S (Take first ∷ changes) fits = (
  false_from_ne_true (is_taken changes first) (λ again.
      let there = taken_there (without_row S first) changes fits.1 first again in
      true≢false (sym (same_row-self first) ∙ not-true (same_row first first) (and_parts _ _ (sym (has_row-without S first first there.0) ∙ there.1)).1)),
  taken_once (without_row S first) changes fits.1,
)

-- insertions insert each row once
put_once : (S : RbacState) (changes : List Change) → AreFitting putting S changes → IsOnce changes
put_once S [] fits = tt
put_once S (Take first ∷ changes) fits = absurd fits.0
put_once S (Put first ∷ changes) fits = (
  false_from_ne_true (is_put changes first) (λ again.
      let absent = put_absent (with_row S first) changes fits.1 first again in
      true≢false (sym (or_right _ _ (same_row-self first)) ∙ sym (has_row-with S first first absent.0) ∙ absent.1)),
  put_once (with_row S first) changes fits.1,
)

-- among removals, none follows an insertion
taking_first : (S : RbacState) (changes : List Change) → AreFitting taking S changes → TakesFirst changes
taking_first S [] fits = tt
taking_first S (Put first ∷ changes) fits = absurd fits.0
taking_first S (Take first ∷ changes) fits = taking_first (without_row S first) changes fits.1

-- nor does one among insertions
putting_last : (S : RbacState) (changes : List Change) → AreFitting putting S changes → TakesFirst changes
putting_last S [] fits = tt
putting_last S (Take first ∷ changes) fits = absurd fits.0
putting_last S (Put first ∷ changes) fits = (putting_takes (with_row S first) changes fits.1, putting_last (with_row S first) changes fits.1)

-- two tests don't both hold if the second fails
not_both : (a b : Bool) → b ≡ false → (a && b) ≡ false
not_both true b h = h
not_both false b h = refl

-- a row that is neither removed nor inserted is there as before
unchanged : (has : Bool) → has ≡ (has && not false || false)
unchanged true = refl
unchanged false = refl

-- the rows of the state that changes lead to, each a change of a row of a set that changes row by row
led_rows :
    (S T : RbacState) (changes : List Change)
    → after_changes S changes ≡ T
    → ((row : Row) → (is_taken changes row && is_put changes row) ≡ false)
    → ((row : Row) → is_plain row ≡ false → (is_taken changes row ≡ false) × (is_put changes row ≡ false))
    → (row : Row) → has_row T row ≡ (has_row S row && not (is_taken changes row) || is_put changes row)
led_rows S T changes leads apart others row = by (is_plain row) refl
  where
    by : (b : Bool) → is_plain row ≡ b → has_row T row ≡ (has_row S row && not (is_taken changes row) || is_put changes row)
    by true plain = ap (λ X. has_row X row) (sym leads) ∙ has_row-changes S changes row plain (apart row)
    by false other = has_row-edges T S row other (ap (λ X. X.edges) (sym leads) ∙ edges-changes S changes) ∙ unchanged (has_row S row)
        ∙ (λ i. has_row S row && not (sym (others row other).0 i) || sym (others row other).1 i)

-- removals turn the rows of S into those of the state that they lead to
pub turns_taking : {S T : RbacState} {changes : List Change} → Steps taking S changes T → Turns S changes T
turns_taking {S} {T} {changes} steps = record {
  version = sym (ap (λ X. X.version) (sym steps.leads) ∙ version-changes S changes);
  rows = led_rows S T changes steps.leads (λ row. not_both _ _ (taking_puts S changes steps.fits row))
      (λ row other. (false_from_ne_true _ (λ h. true≢false (sym (taken_there S changes steps.fits row h).0 ∙ other)), taking_puts S changes steps.fits row));
  there = λ row h. (taken_there S changes steps.fits row h).1;
  absent = λ row h. absurd (true≢false (sym h ∙ taking_puts S changes steps.fits row));
  once = taken_once S changes steps.fits;
  takes_first = taking_first S changes steps.fits;
}

-- so do insertions
pub turns_putting : {S T : RbacState} {changes : List Change} → Steps putting S changes T → Turns S changes T
turns_putting {S} {T} {changes} steps = record {
  version = sym (ap (λ X. X.version) (sym steps.leads) ∙ version-changes S changes);
  rows = led_rows S T changes steps.leads (λ row. ap (λ b. b && is_put changes row) (putting_takes S changes steps.fits row))
      (λ row other. (putting_takes S changes steps.fits row, false_from_ne_true _ (λ h. true≢false (sym (put_absent S changes steps.fits row h).0 ∙ other))));
  there = λ row h. absurd (true≢false (sym h ∙ putting_takes S changes steps.fits row));
  absent = λ row h. (put_absent S changes steps.fits row h).1;
  once = put_once S changes steps.fits;
  takes_first = putting_last S changes steps.fits;
}

-- ---- one list of changes after another

-- what two lists remove
taken_in : (xs ys : List Change) (row : Row) → is_taken (xs ++ ys) row ≡ (is_taken xs row || is_taken ys row)
unfolding is_taken
taken_in xs ys row = list_any-append (λ change. takes change row) xs ys

-- what two lists insert
put_in : (xs ys : List Change) (row : Row) → is_put (xs ++ ys) row ≡ (is_put xs row || is_put ys row)
unfolding is_put
put_in xs ys row = list_any-append (λ change. puts change row) xs ys

-- no row is removed by the first list and inserted by the second
abbrev pub AreApart : List Change → List Change → Type 0
AreApart takes puts = (row : Row) → (is_taken takes row && is_put puts row) ≡ false

-- whether a row is there after two lists of changes
both_rows : (has t p u q : Bool) → (u && p) ≡ false → (t && q) ≡ false → ((has && not t || p) && not u || q) ≡ (has && not (t || u) || (p || q))
both_rows has t true true q h k = cc
both_rows has true p u true h k = cc
both_rows true true p u q h k = refl
both_rows true false true u q h k = refl
both_rows true false false u q h k = refl
both_rows false t true u q h k = refl
both_rows false t false u q h k = refl

-- two lists together insert and remove each row once, if no row is inserted by both or removed by both
once_append :
    (xs ys : List Change)
    → ((row : Row) → is_put xs row ≡ true → is_put ys row ≡ false) → ((row : Row) → is_taken xs row ≡ true → is_taken ys row ≡ false)
    → IsOnce xs → IsOnce ys → IsOnce (xs ++ ys)
unfolding is_put is_taken
once_append [] ys puts takes first second = second
once_append (Put row ∷ xs) ys puts takes first second = (
  put_in xs ys row ∙ (λ i. first.0 i || puts row (or_left _ _ (same_row-self row)) i),
  once_append xs ys (λ other h. puts other (or_right (same_row row other) _ h)) takes first.1 second,
)
once_append (Take row ∷ xs) ys puts takes first second = (
  taken_in xs ys row ∙ (λ i. first.0 i || takes row (or_left _ _ (same_row-self row)) i),
  once_append xs ys puts (λ other h. takes other (or_right (same_row row other) _ h)) first.1 second,
)

-- lists that turn the rows by way of M may be joined, if no row is removed by one and inserted by the other
pub turns_append :
    {S M T : RbacState} {xs ys : List Change}
    → Turns S xs M → Turns M ys T → AreApart ys xs → AreApart xs ys → TakesFirst (xs ++ ys) → Turns S (xs ++ ys) T
turns_append {S} {M} {T} {xs} {ys} first second back forth takes_first = record {
  version = first.version ∙ second.version;
  rows = λ row. second.rows row ∙ ap (λ b. b && not (is_taken ys row) || is_put ys row) (first.rows row)
      ∙ both_rows (has_row S row) (is_taken xs row) (is_put xs row) (is_taken ys row) (is_put ys row) (back row) (forth row)
      ∙ (λ i. has_row S row && not (sym (taken_in xs ys row) i) || sym (put_in xs ys row) i);
  there = λ row h. elim (or_cases (is_taken xs row) (is_taken ys row) (sym (taken_in xs ys row) ∙ h)) [
    | inl early ↦ first.there row early
    | inr late ↦ elim (or_cases (has_row S row && not (is_taken xs row)) (is_put xs row) (sym (first.rows row) ∙ second.there row late)) [
      | inl was ↦ (and_parts _ _ was).0
      | inr put ↦ absurd (true≢false (sym (and_from _ _ late put) ∙ back row))
    ]
  ];
  absent = λ row h. elim (or_cases (is_put xs row) (is_put ys row) (sym (put_in xs ys row) ∙ h)) [
    | inl early ↦ first.absent row early
    | inr late ↦ false_from_ne_true (has_row S row) (λ was. true≢false (
        sym (or_left _ _ (and_from _ _ was (ap not (false_from_ne_true (is_taken xs row) (λ taken. true≢false (sym (and_from _ _ taken late) ∙ forth row))))))
        ∙ sym (first.rows row) ∙ second.absent row late))
  ];
  once = once_append xs ys
      (λ row early. false_from_ne_true (is_put ys row) (λ late. true≢false (sym (or_right (has_row S row && not (is_taken xs row)) _ early) ∙ sym (first.rows row) ∙ second.absent row late)))
      (λ row early. false_from_ne_true (is_taken ys row) (λ late. true≢false (sym (second.there row late) ∙ first.rows row ∙ gone row early)))
      first.once second.once;
  takes_first = takes_first;
}
  where
    gone : (row : Row) → is_taken xs row ≡ true → (has_row S row && not (is_taken xs row) || is_put xs row) ≡ false
    gone row early = false_from_ne_true _ (λ h. elim (or_cases (has_row S row && not (is_taken xs row)) (is_put xs row) h) [
      | inl was ↦ true≢false (sym (and_parts _ _ was).1 ∙ ap not early)
      | inr put ↦ true≢false (sym (first.there row early) ∙ first.absent row put)
    ])

-- if the first list inserts nothing, no removal follows an insertion
pub takes_first_nothing_put : (xs ys : List Change) → ((row : Row) → is_put xs row ≡ false) → TakesFirst ys → TakesFirst (xs ++ ys)
unfolding is_put
takes_first_nothing_put [] ys none rest = rest
takes_first_nothing_put (Put row ∷ xs) ys none rest = absurd (true≢false (sym (or_left _ _ (same_row-self row)) ∙ none row))
takes_first_nothing_put (Take row ∷ xs) ys none rest = takes_first_nothing_put xs ys none rest

-- the same if the second list removes nothing
pub takes_first_nothing_taken : (xs ys : List Change) → ((row : Row) → is_taken ys row ≡ false) → TakesFirst xs → TakesFirst ys → TakesFirst (xs ++ ys)
takes_first_nothing_taken [] ys none first rest = rest
takes_first_nothing_taken (Put row ∷ xs) ys none first rest = ((λ other. taken_in xs ys other ∙ (λ i. first.0 other i || none other i)), takes_first_nothing_taken xs ys none first.1 rest)
takes_first_nothing_taken (Take row ∷ xs) ys none first rest = takes_first_nothing_taken xs ys none first rest

-- two tests don't both hold if the first fails
nothing_and : (a b : Bool) → a ≡ false → (a && b) ≡ false
nothing_and true b h = absurd (true≢false h)
nothing_and false b h = refl

-- one list after another, if neither inserts a row
pub turns_taking_more : {S M T : RbacState} {xs ys : List Change} → ((row : Row) → is_put xs row ≡ false) → ((row : Row) → is_put ys row ≡ false) → Turns S xs M → Turns M ys T → Turns S (xs ++ ys) T
turns_taking_more {S} {M} {T} {xs} {ys} none none_more first second = turns_append first second
    (λ row. not_both (is_taken ys row) (is_put xs row) (none row)) (λ row. not_both (is_taken xs row) (is_put ys row) (none_more row))
    (takes_first_nothing_put xs ys none second.takes_first)

-- one list after another, if neither removes a row
pub turns_putting_more : {S M T : RbacState} {xs ys : List Change} → ((row : Row) → is_taken xs row ≡ false) → ((row : Row) → is_taken ys row ≡ false) → Turns S xs M → Turns M ys T → Turns S (xs ++ ys) T
turns_putting_more {S} {M} {T} {xs} {ys} none none_more first second = turns_append first second
    (λ row. nothing_and (is_taken ys row) (is_put xs row) (none_more row)) (λ row. nothing_and (is_taken xs row) (is_put ys row) (none row))
    (takes_first_nothing_taken xs ys none_more first.takes_first second.takes_first)

-- removals, and then insertions of none of the removed rows
pub turns_both : {S M T : RbacState} {xs ys : List Change} → Steps taking S xs M → Steps putting M ys T → AreApart xs ys → Turns S (xs ++ ys) T
turns_both {S} {M} {T} {xs} {ys} first second apart =
    let none_put = taking_puts S xs first.fits in
    let none_taken = putting_takes M ys second.fits in
    turns_append (turns_taking first) (turns_putting second) (λ row. not_both (is_taken ys row) (is_put xs row) (none_put row)) apart
    (takes_first_nothing_put xs ys none_put (putting_last M ys second.fits))
