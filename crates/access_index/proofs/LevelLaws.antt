-- Roles that have as many members of a set as bar them, counted in rows of bits.
use Rattle.std.proofs.Common.{◌≡◌, ◌≢◌, ℕ, zero, suc, ◌+◌, ◌-◌, ◌<◌, ◌≤◌, Bool, true, false, not, ◌&&◌, ◌||◌, List, [], ◌∷◌, length, take, get_or, inl, inr, refl, sym, ◌∙◌, ap, subst, arith}
use Rattle.std.specs.Prelude.{IsTrue, Option, Some, None, nat_eq, nat_lt, count_by}
use Rattle.std.specs.List.{list_any, list_all}
use Rattle.std.specs.Cmp.{both_ways}
use Rattle.std.proofs.lemmas.Bool.{true≢false, false_from_ne_true, cases_Bool, cases_eq, cases_lt, cond-true, cond-false, or_left, or_right, and_parts, and_from, lt-ltb, le-ltb, eq-eqb, ne_eqb}
use Rattle.std.proofs.lemmas.List.{length-take-le, take_more}
use Rattle.std.proofs.lemmas.List.Folds.{list_any-append}
use Rattle.std.proofs.lemmas.List.Sums.{count_by-le-length, count_by_more_no, count_by_more_yes}
use Rattle.bit_rows.specs.declared.row.BitRow.{BitRow}
use Rattle.bit_rows.specs.Rows.{has}
use Rattle.rbac_sets.specs.Sets.{Bytes, Pair, Cardinality, cardinality_cmp, same_name, contains, members, any, count}
use Rattle.rbac_sets.specs.NameOrder.{name_total, name_exact, cardinality_total, cardinality_exact}
use Rattle.rbac_sets.proofs.SetLaws.{any-Decides, contains-members, tie_Decides}
use Rattle.std.specs.Ordering.{eq_by_cmp, is_lt, nat_cmp, ord_min}
use Rattle.role_order.specs.Order.{geq}
use Rattle.role_order.proofs.Runs.{count_seconds}
use Rattle.admin_mgr.specs.RbacState.{RbacState, members_of}
use Rattle.admin_mgr.specs.Good.{IsGood}
use Rattle.admin_mgr.specs.UserAccess.{stands_alone}
use Rattle.admin_mgr.specs.private.HolderRoles.{run_of}
use Rattle.admin_mgr.proofs.Verdicts.UserAccessLaws.{alone_by_runs}
use Rattle.access_index.specs.declared.index.AccessIndex.{AccessIndex}
use Rattle.access_index.specs.Following.{Follow}
use Rattle.access_index.specs.Index.{Indexes, rows_of, is_barred_by, is_below, is_below_number, is_used, number_of}
use Rattle.access_index.specs.private.Barring.{AreBarred, at_least, has_members, is_member}
use Rattle.access_index.proofs.BarLaws.{above_is, alone_without_juniors, geq_same, unbarred_without_juniors}
use Rattle.access_index.proofs.FindLaws.{junior-is}
use Rattle.access_index.proofs.FollowLaws.{some-is}
use Rattle.access_index.proofs.IndexLaws.{absent_senior}
use Rattle.access_index.proofs.RowLaws.{or_false, and_false}

-- ---- one more member

one_more : (k i : ℕ) → not (nat_lt (k + 1) (suc i)) ≡ (not (nat_lt k (suc i)) || (not (nat_lt k i) && true))
one_more k i = elim (cases_lt k i) [
  | inl below ↦
      let first : nat_lt (k + 1) (suc i) ≡ true = lt-ltb (k + 1) (suc i) (omega (arith, below)) in
      let second : nat_lt k (suc i) ≡ true = lt-ltb k (suc i) (omega (arith, below)) in
      let third : nat_lt k i ≡ true = lt-ltb k i below in
      ap not first ∙ sym (λ t. not (second t) || (not (third t) && true))
  | inr past ↦
      let first : nat_lt (k + 1) (suc i) ≡ false = le-ltb (k + 1) (suc i) (omega (arith, past)) in
      let third : nat_lt k i ≡ false = le-ltb k i past in
      ap not first ∙ sym (or_right (not (nat_lt k (suc i))) (not (nat_lt k i) && true) (λ t. not (third t) && true))
]

none_more : (k i : ℕ) → not (nat_lt k (suc i)) ≡ (not (nat_lt k (suc i)) || (not (nat_lt k i) && false))
none_more k i = sym (ap (λ b. not (nat_lt k (suc i)) || b) (and_false (not (nat_lt k i))) ∙ or_false (not (nat_lt k (suc i))))

-- how many of the members up to a place are the role of a number or juniors of it
abbrev pub counted : AccessIndex → ℕ → List Pair → ℕ
counted index n members = count_by (λ (member : Pair). is_member index n (number_of index member.1)) members

-- The levels count the members up to a place, if so many members are left, as far as they matter: a number that is in the level of
-- the size after all members is in each level before which so many members are left.
abbrev pub Count : AccessIndex → List BitRow → ℕ → ℕ → List Pair → Type 0
Count index levels size left members = (j n : ℕ) → j ≤ size → size ≤ j + left → at_least levels j n ≡ has_members index n members j

zero_level : (k : ℕ) → true ≡ not (nat_lt k 0)
zero_level k = sym (ap not (le-ltb k 0 (omega arith)))

pub count_none : (index : AccessIndex) (levels : List BitRow) (size left : ℕ) → ((i n : ℕ) → is_below levels i n ≡ false) → Count index levels size left []
count_none index levels size left empty zero n within near = zero_level 0
count_none index levels size left empty (suc j) n within near = empty j n ∙ sym (ap not (lt-ltb 0 (suc j) (omega arith)))

-- levels with the same bits count the same
pub count_kept : (index : AccessIndex) (levels reached : List BitRow) (size left : ℕ) (members : List Pair) → ((i j : ℕ) → is_below reached i j ≡ is_below levels i j) → Count index levels size left members → Count index reached size left members
count_kept index levels reached size left members same before zero n within near = before zero n within near
count_kept index levels reached size left members same before (suc i) n within near = same i n ∙ before (suc i) n within near

-- whether the member passes or not, one more level says so
level_more : (index : AccessIndex) (members : List Pair) (n i at : ℕ) (member : Pair) → at < length members → member ≡ get_or members at member → (b : Bool) → is_member index n (number_of index member.1) ≡ b
    → has_members index n (take (at + 1) members) (suc i) ≡ (has_members index n (take at members) (suc i) || (has_members index n (take at members) i && b))
level_more index members n i at member within is true passes =
    ap (λ k. not (nat_lt k (suc i))) (count_by_more_yes (λ (m : Pair). is_member index n (number_of index m.1)) members at member within (ap (λ (m : Pair). is_member index n (number_of index m.1)) (sym is) ∙ passes))
    ∙ one_more (counted index n (take at members)) i
level_more index members n i at member within is false fails =
    ap (λ k. not (nat_lt k (suc i))) (count_by_more_no (λ (m : Pair). is_member index n (number_of index m.1)) members at member within (ap (λ (m : Pair). is_member index n (number_of index m.1)) (sym is) ∙ fails))
    ∙ none_more (counted index n (take at members)) i

module _ (index : AccessIndex) (levels : List BitRow) (size left : ℕ) (members : List Pair) (at : ℕ) (member : Pair) (within : at < length members) (is : member ≡ get_or members at member)
    (before : Count index levels size (left + 1) (take at members)) where
  -- no number is counted more often than there are members
  few : (i n : ℕ) → at < i → has_members index n (take (at + 1) members) (suc i) ≡ false
  few i n above =
      let most = count_by-le-length (λ (m : Pair). is_member index n (number_of index m.1)) (take (at + 1) members) in
      let size = length-take-le (at + 1) members (omega (arith, within)) in
      ap not (lt-ltb (counted index n (take (at + 1) members)) (suc i) (omega (arith, above, most, size)))

  -- a role with a number: the levels below `raised_to` are raised from one on that doesn't matter any more
  pub count_more : (raised : List BitRow) (row : BitRow) (number from raised_to : ℕ) → number_of index member.1 ≡ Some number → ((n : ℕ) → has row n ≡ is_member index n (Some number))
      → ((i n : ℕ) → from ≤ i → i < raised_to → is_below raised i n ≡ (is_below levels i n || (at_least levels i n && has row n))) → ((i n : ℕ) → raised_to ≤ i → is_below raised i n ≡ false)
      → ((i : ℕ) → size ≤ suc i + left → from ≤ i) → ((i : ℕ) → i < size → i ≤ at → i < raised_to) → Count index raised size left (take (at + 1) members)
  count_more raised row number from raised_to numbered made more past matters reached zero n low near = zero_level (counted index n (take (at + 1) members))
  count_more raised row number from raised_to numbered made more past matters reached (suc i) n low near = elim (cases_lt i raised_to) [
    | inl there ↦
        more i n (matters i near) there
        ∙ (λ t. before (suc i) n low (omega (arith, near)) t || (before i n (omega (arith, low)) (omega (arith, near)) t && made n t))
        ∙ sym (level_more index members n i at member within is (is_member index n (Some number)) (ap (is_member index n) numbered))
    | inr beyond ↦ elim (cases_lt at i) [
      | inl above ↦ past i n beyond ∙ sym (few i n above)
      | inr here ↦ (let clash : i < raised_to = reached i (omega (arith, low)) (omega (arith, here)) in absurd (omega (arith, clash, beyond)))
    ]
  ]

  -- a role without one is none of them
  pub count_same : number_of index member.1 ≡ None → Count index levels size left (take (at + 1) members)
  count_same none zero n low near = zero_level (counted index n (take (at + 1) members))
  count_same none (suc i) n low near =
      before (suc i) n low (omega (arith, near))
      ∙ sym (ap (λ b. has_members index n (take at members) (suc i) || b) (and_false (has_members index n (take at members) i)) ∙ or_false (has_members index n (take at members) (suc i)))
      ∙ sym (level_more index members n i at member within is false (ap (is_member index n) none))

-- what is at most each of two numbers is at most the lesser one
pub within_min : (i a b : ℕ) → i ≤ a → i ≤ b → i ≤ ord_min nat_cmp a b
within_min i a b low high = elim (cases_Bool (is_lt (nat_cmp b a))) [
  | inl less ↦ subst (λ k. i ≤ k) (sym (cond-true (is_lt (nat_cmp b a)) b a less)) high
  | inr more ↦ subst (λ k. i ≤ k) (sym (cond-false (is_lt (nat_cmp b a)) b a more)) low
]

-- there is nothing beyond the last row
pub beyond_last : (rows : List BitRow) (i n : ℕ) → length rows ≤ i → is_below rows i n ≡ false
beyond_last [] i n past = refl
beyond_last (row ∷ rows) zero n past = absurd (omega (arith, past))
beyond_last (row ∷ rows) (suc i) n past = beyond_last rows i n (omega (arith, past))

-- the last level
pub last_level : (levels : List BitRow) (count : ℕ) → 0 < count → (n : ℕ) → is_below levels (count - 1) n ≡ at_least levels count n
last_level levels zero some n = absurd (omega (arith, some))
last_level levels (suc j) some n = let same : suc j - 1 ≡ j = omega arith in ap (λ k. is_below levels k n) same

-- ---- levels that are raised from the last one on

pub record AreRaised (raised levels : List BitRow) (row : BitRow) (from size : ℕ) : Type 0 where
  pub low : from ≤ size
  pub done : (i n : ℕ) → from ≤ i → i < size → is_below raised i n ≡ (is_below levels i n || (at_least levels i n && has row n))
  pub rest : (i n : ℕ) → i < from → is_below raised i n ≡ is_below levels i n

-- a level before the first that isn't raised yet is as it was
pub same_level : (raised levels : List BitRow) (row : BitRow) (from size : ℕ) → AreRaised raised levels row from size → (i n : ℕ) → i < from → at_least raised i n ≡ at_least levels i n
same_level raised levels row from size are zero n below = refl
same_level raised levels row from size are (suc i) n below = are.rest i n (omega (arith, below))

-- a level is as it was if the rows but the one of its number are
pub level_kept : (levels taken : List BitRow) (level : ℕ) → ((i n : ℕ) → i ≢ level → is_below taken i n ≡ is_below levels i n) → (n : ℕ) → at_least taken level n ≡ at_least levels level n
level_kept levels taken zero others n = refl
level_kept levels taken (suc level) others n = others level n (λ same. omega (arith, same))

pub raised_more : (raised levels new : List BitRow) (row put : BitRow) (level size : ℕ) → level < size → AreRaised raised levels row (level + 1) size
    → ((n : ℕ) → has put n ≡ (is_below raised level n || (at_least raised level n && has row n)))
    → ((n : ℕ) → is_below new level n ≡ has put n) → ((i n : ℕ) → i ≢ level → is_below new i n ≡ is_below raised i n) → AreRaised new levels row level size
raised_more raised levels new row put level size within are joined here others = record {
  low = omega (arith, within);
  done = λ i n late early. elim (cases_eq i level) [
    | inl same ↦ subst (λ k. is_below new k n ≡ (is_below levels k n || (at_least levels k n && has row n))) (sym same) (at_level n)
    | inr differ ↦ others i n differ ∙ are.done i n (omega (arith, late, differ)) early
  ];
  rest = λ i n below. others i n (λ same. omega (arith, below, same)) ∙ are.rest i n (omega (arith, below));
}
  where
    at_level : (n : ℕ) → is_below new level n ≡ (is_below levels level n || (at_least levels level n && has row n))
    at_level n =
        here n ∙ joined n ∙ (λ t. are.rest level n (omega arith) t || (same_level raised levels row (level + 1) size are level n (omega arith) t && has row n))

-- ---- the members that a role has

-- a place of a list
pub any_at : {X : Type 0} (p : X → Bool) (xs : List X) (i : ℕ) (d : X) → i < length xs → IsTrue (p (get_or xs i d)) → IsTrue (list_any p xs)
any_at p [] i d within is = absurd (omega (arith, within))
any_at p (x ∷ xs) zero d within is = or_left _ _ is
any_at p (x ∷ xs) (suc i) d within is = or_right _ _ (any_at p xs i d (omega (arith, within)) is)

-- the dynamic set at a place is one of the state
pub set_there : (S : RbacState) (sets : List Cardinality) → sets ≡ members S.dsd.cardinalities → (i : ℕ) (set : Cardinality) → i < length sets → set ≡ get_or sets i set → IsTrue (contains S.dsd.cardinalities set)
set_there S sets are i set within is =
    contains-members S.dsd.cardinalities set ∙ ap (list_any (eq_by_cmp cardinality_cmp set)) (sym are)
    ∙ any_at (eq_by_cmp cardinality_cmp set) sets i set within ((tie_Decides cardinality_total cardinality_exact set (get_or sets i set)).1 is)

-- whether the role of a number violates the set alone
abbrev pub violates : AccessIndex → RbacState → ℕ → Cardinality → Bool
violates index S n set = has_members index n (run_of S.dsd.members set.0) set.1

pub violates_more : (index : AccessIndex) (S : RbacState) (n : ℕ) (sets : List Cardinality) (i : ℕ) (set : Cardinality) (before after : Bool) → i < length sets → set ≡ get_or sets i set
    → before ≡ list_any (violates index S n) (take i sets) → after ≡ (before || violates index S n set) → after ≡ list_any (violates index S n) (take (i + 1) sets)
violates_more index S n sets i set before after within is earlier now =
    now ∙ ap (λ b. b || violates index S n set) earlier
    ∙ ap (λ b. list_any (violates index S n) (take i sets) || b) (ap (violates index S n) is ∙ sym (or_false (violates index S n (get_or sets i set))))
    ∙ sym (ap (list_any (violates index S n)) (take_more sets i set within) ∙ list_any-append (violates index S n) (take i sets) (get_or sets i set ∷ []))

never_counted : {X : Type 0} (xs : List X) → count_by (λ (x : X). false) xs ≡ 0
never_counted [] = refl
never_counted (x ∷ xs) = never_counted xs

none_counted : (index : AccessIndex) (n : ℕ) (members : List Pair) → ((member : Bytes) → is_member index n (number_of index member) ≡ false) → counted index n members ≡ 0
none_counted index n members none = (λ t. count_by (λ (member : Pair). none member.1 t) members) ∙ never_counted members

module _ (index : AccessIndex) (S : RbacState) (keeps : Indexes index S) where
  -- the roles that are the role of a number or juniors of it
  module _ (role : Bytes) (n : ℕ) (at : number_of index role ≡ Some n) where
    pub member_is : (member : Bytes) → is_member index n (number_of index member) ≡ geq S.edges role member
    member_is member = by (number_of index member) refl
      where
        by : (number : Option ℕ) → number_of index member ≡ number → is_member index n number ≡ geq S.edges role member
        by None none = sym (false_from_ne_true (geq S.edges role member) (λ above. elim (cases_Bool (same_name role member)) [
          | inl same ↦ (let clash : None ≡ Some n = sym none ∙ ap (number_of index) (sym ((tie_Decides name_total name_exact role member).0 same)) ∙ at in cc)
          | inr differ ↦
              let found = keeps.juniors.numbered role member (junior-is S role member ∙ above_is S role member differ ∙ above) in
              (let clash : None ≡ Some found.0 = sym none ∙ found.1 in cc)
        ]))
        by (Some m) at_m = elim (cases_Bool (same_name role member)) [
          | inl same ↦
              let e = (tie_Decides name_total name_exact role member).0 same in
              or_left (nat_eq n m) (is_below index.seniors.items m n) (eq-eqb n m (some-is n m (sym at ∙ ap (number_of index) e ∙ at_m))) ∙ sym (geq_same S role member e)
          | inr differ ↦
              let apart : n ≢ m = λ e. true≢false (sym ((tie_Decides name_total name_exact role member).1 (keeps.numbers.one_role role member n at (at_m ∙ ap (λ k. Some k) (sym e)))) ∙ differ) in
              ap (λ b. b || is_below index.seniors.items m n) (ne_eqb n m apart) ∙ keeps.turned n m
              ∙ sym (ap (λ number. is_below_number index.juniors.items number m) at) ∙ keeps.juniors.same role member m at_m ∙ junior-is S role member ∙ above_is S role member differ
        ]

    pub violates-alone : list_any (violates index S n) (members S.dsd.cardinalities) ≡ not (stands_alone S role)
    violates-alone =
        (λ t. list_any (λ (set : Cardinality). not (nat_lt (count_by (λ (member : Pair). member_is member.1 t) (run_of S.dsd.members set.0)) set.1)) (members S.dsd.cardinalities))
        ∙ any-not (λ (set : Cardinality). nat_lt (count_by (λ (member : Pair). geq S.edges role member.1) (run_of S.dsd.members set.0)) set.1) (members S.dsd.cardinalities)
        ∙ ap not (alone_by_runs S role)
      where
        any-not : {X : Type 0} (p : X → Bool) (xs : List X) → list_any (λ x. not (p x)) xs ≡ not (list_all p xs)
        any-not p [] = refl
        any-not p (x ∷ xs) = step _ _ (p x) (any-not p xs)
          where
            step : (rest rest' : Bool) (b : Bool) → rest ≡ not rest' → (not b || rest) ≡ not (b && rest')
            step rest rest' true h = h
            step rest rest' false h = refl

  -- a number that isn't used has no members
  unused_member : (n : ℕ) → is_used index n ≡ false → (member : Bytes) → is_member index n (number_of index member) ≡ false
  unused_member n out member = by (number_of index member) refl
    where
      by : (number : Option ℕ) → number_of index member ≡ number → is_member index n number ≡ false
      by None none = refl
      by (Some m) at =
          ap (λ b. b || is_below index.seniors.items m n) (ne_eqb n m (λ e. true≢false (sym (keeps.numbers.is_used member m at) ∙ ap (is_used index) (sym e) ∙ out)))
          ∙ keeps.turned n m ∙ keeps.clear n m out

  -- a set of the state
  module _ (good : IsGood S) (set : Cardinality) (there : IsTrue (contains S.dsd.cardinalities set)) where
    unused_set : (n : ℕ) → is_used index n ≡ false → violates index S n set ≡ false
    unused_set n out =
        ap (λ k. not (nat_lt k set.1)) (none_counted index n (run_of S.dsd.members set.0) (unused_member n out))
        ∙ ap not (lt-ltb 0 set.1 (omega (arith, (good.well_formed.dsd.cardinality set.0 set.1 there).0)))

    too_many : Bytes → Bool
    too_many role = not (nat_lt (count (geq S.edges role) (members_of S.dsd set.0)) set.1)

    -- it has one cardinality
    one_set : (role : Bytes) → too_many role ≡ is_barred_by S set.0 role
    unfolding is_barred_by too_many
    one_set role =
        let decides = any-Decides cardinality_total cardinality_exact (λ (entry : Cardinality). same_name entry.0 set.0 && not (nat_lt (count (geq S.edges role) (members_of S.dsd set.0)) entry.1)) S.dsd.cardinalities in
        both_ways _ _ (λ is. decides.1 (set, there, and_from _ _ ((tie_Decides name_total name_exact set.0 set.0).1 refl) is)) (λ is.
        let found = decides.0 is in
        let parts = and_parts _ _ found.2 in
        let named = (tie_Decides name_total name_exact found.0.0 set.0).0 parts.0 in
        let same = good.well_formed.dsd.one_cardinality set.0 found.0.1 set.1 (subst (λ name. IsTrue (contains S.dsd.cardinalities (name, found.0.1))) named found.1) there in
        subst (λ n. not (nat_lt (count (geq S.edges role) (members_of S.dsd set.0)) n) ≡ true) same parts.1)

    by_role : (role : Bytes) (n : ℕ) → number_of index role ≡ Some n → violates index S n set ≡ is_barred_by S set.0 role
    unfolding too_many
    by_role role n at =
        (λ t. not (nat_lt (count_by (λ (member : Pair). member_is role n at member.1 t) (run_of S.dsd.members set.0)) set.1))
        ∙ ap (λ k. not (nat_lt k set.1)) (sym (count_seconds (geq S.edges role) S.dsd.members set.0))
        ∙ one_set role

    -- a row that was counted has the roles that the set bars
    pub set_bars : (row : BitRow) → ((n : ℕ) → has row n ≡ violates index S n set) → Follow (Unit {0}) (number_of index) (is_used index) (λ _. has row) (λ _. is_barred_by S set.0)
    set_bars row is = record {
      same = λ x role n at. is n ∙ by_role role n at;
      unused = λ x n out. is n ∙ unused_set n out;
      numbered = λ x role bars. numbered role bars (number_of index role) refl;
    }
      where
        numbered : (role : Bytes) → IsTrue (is_barred_by S set.0 role) → (number : Option ℕ) → number_of index role ≡ number → (n : ℕ) × (number_of index role ≡ Some n)
        numbered role bars None none = absurd (true≢false (sym bars ∙ unbarred_without_juniors S good role (λ q. sym (junior-is S role q) ∙ absent_senior index (rows_of S) keeps role none q) set.0))
        numbered role bars (Some n) at = (n, at)

    -- and the other way round
    pub set_counts : (row : BitRow) → Follow (Unit {0}) (number_of index) (is_used index) (λ _. has row) (λ _. is_barred_by S set.0) → (n : ℕ) → has row n ≡ violates index S n set
    set_counts row bars n = elim (cases_Bool (is_used index n)) [
      | inl used ↦ let owner = keeps.numbers.has_role n used in bars.same tt owner.0 n owner.1 ∙ sym (by_role owner.0 n owner.1)
      | inr out ↦ bars.unused tt n out ∙ sym (unused_set n out)
    ]

  unused_row : IsGood S → (n : ℕ) → is_used index n ≡ false → IsTrue (list_any (violates index S n) (members S.dsd.cardinalities)) → ⊥
  unfolding any
  unused_row good n out some =
      let found = (any-Decides cardinality_total cardinality_exact (violates index S n) S.dsd.cardinalities).0 some in
      true≢false (sym found.2 ∙ unused_set good found.0 found.1 n out)

  pub are_barred : IsGood S → (row : BitRow) → ((n : ℕ) → has row n ≡ list_any (violates index S n) (members S.dsd.cardinalities)) → AreBarred index S row
  are_barred good row is = record {
    same = λ x role n at. is n ∙ violates-alone role n at;
    unused = λ x n out. is n ∙ false_from_ne_true (list_any (violates index S n) (members S.dsd.cardinalities)) (λ some. unused_row good n out some);
    numbered = λ x role bars. by role bars (number_of index role) refl;
  }
    where
      by : (role : Bytes) → IsTrue (not (stands_alone S role)) → (number : Option ℕ) → number_of index role ≡ number → (n : ℕ) × (number_of index role ≡ Some n)
      by role bars None none = absurd (true≢false (sym bars ∙ ap not (alone_without_juniors S good role (λ q. sym (junior-is S role q) ∙ absent_senior index (rows_of S) keeps role none q))))
      by role bars (Some n) at = (n, at)
