-- A walk through a run of pairs and the grants of a permission at once.
use Rattle.std.proofs.Common.{◌≡◌, ℕ, zero, suc, ◌+◌, ◌-◌, ◌<◌, ◌≤◌, Bool, true, false, ◌||◌, cond, List, [], ◌∷◌, length, drop, get_or, true≢false, refl, sym, ◌∙◌, ap, subst, arith}
use Rattle.std.specs.List.{list_any, All, AllByRecursion, AllWithin, filter}
use Rattle.std.specs.List.Sorted.{IsStrictlySortedBy}
use Rattle.std.specs.declared.cmp.Ordering.{Ordering}
use Rattle.std.specs.declared.cmp.Ordering.TheVariants.{Less, Equal}
use Rattle.std.specs.Ordering.{ordering_reverse, ordering_then, is_eq, eq_by_cmp}
use Rattle.std.specs.Cmp.{tied_itself}
use Rattle.std.proofs.lemmas.List.{drop_more, drop_all, drop-drop, get_or-drop, length-drop}
use Rattle.std.proofs.lemmas.Map.Keys.{Less-from_sorted}
use Rattle.rbac_sets.specs.Sets.{Bytes, Pair, Pairs, Triple, Triples, name_cmp, pair_cmp, triple_cmp, same_name, members}
use Rattle.rbac_sets.specs.NameOrder.{name_total, name_exact, pair_total, pair_exact}
use Rattle.rbac_sets.proofs.SetLaws.{tie_Decides}
use Rattle.role_order.specs.Order.{IsClosure}
use Rattle.role_order.specs.private.Checked.{second_cmp}
use Rattle.role_order.proofs.Deciding.{below-are}
use Rattle.admin_mgr.specs.private.HolderRoles.{run_of, is_reached}
use Rattle.rbac_sets.proofs.Members.{members-rise}
use Rattle.review_mgr.specs.private.Intersection.{third_cmp, may_have, meets}
use Rattle.review_mgr.specs.Review.{permission_of, is_grant_of}

-- ---- what is less than all of the others is skipped

other : (a b : Bytes) → name_cmp a b ≡ Less → same_name b a ≡ false
other a b less = ap is_eq (name_total.antisymm b a ∙ ap ordering_reverse less)

other_turned : (a b : Bytes) → name_cmp a b ≡ Less → same_name a b ≡ false
other_turned a b less = ap is_eq less

below_all : (a b : Bytes) (gs : List Triple) → name_cmp a b ≡ Less → AllByRecursion (λ (h : Triple). name_cmp b h.2 ≡ Less) gs → AllByRecursion (λ (h : Triple). name_cmp a h.2 ≡ Less) gs
below_all a b [] less all = tt
below_all a b (h ∷ gs) less all = (name_total.trans a b h.2 less all.0, below_all a b gs less all.1)

drop_pair : (p : Pair) (ps : List Pair) (gs : List Triple) → AllByRecursion (λ (h : Triple). name_cmp p.1 h.2 ≡ Less) gs → meets (p ∷ ps) gs ≡ meets ps gs
drop_pair p ps [] all = refl
drop_pair p ps (h ∷ gs) all = λ i. (other p.1 h.2 all.0 i || list_any (λ (q : Pair). same_name h.2 q.1) ps) || drop_pair p ps gs all.1 i

drop_grant : (g : Triple) (ps : List Pair) → AllByRecursion (λ (q : Pair). name_cmp g.2 q.1 ≡ Less) ps → list_any (λ (q : Pair). same_name g.2 q.1) ps ≡ false
drop_grant g [] all = refl
drop_grant g (q ∷ ps) all = λ i. other_turned g.2 q.1 all.0 i || drop_grant g ps all.1 i

below_pairs : (a b : Bytes) (ps : List Pair) → name_cmp a b ≡ Less → AllByRecursion (λ (q : Pair). name_cmp b q.1 ≡ Less) ps → AllByRecursion (λ (q : Pair). name_cmp a q.1 ≡ Less) ps
below_pairs a b [] less all = tt
below_pairs a b (q ∷ ps) less all = (name_total.trans a b q.1 less all.0, below_pairs a b ps less all.1)

-- the pairs up to one that is less than the first grant
pass_pairs : (k : ℕ) (ps : List Pair) (g : Triple) (gs : List Triple) (d : Pair) → IsStrictlySortedBy second_cmp ps → AllByRecursion (λ (h : Triple). name_cmp g.2 h.2 ≡ Less) gs
    → k < length ps → name_cmp (get_or ps k d).1 g.2 ≡ Less → meets ps (g ∷ gs) ≡ meets (drop (suc k) ps) (g ∷ gs)
unfolding IsStrictlySortedBy
pass_pairs k [] g gs d rise all within less = absurd (omega arith)
pass_pairs zero (p ∷ ps) g gs d rise all within less = drop_pair p ps (g ∷ gs) (less, below_all p.1 g.2 gs less all)
pass_pairs (suc k) (p ∷ ps) g gs d rise all within less =
    let first : name_cmp p.1 g.2 ≡ Less = name_total.trans p.1 (get_or ps k d).1 g.2 (Less-from_sorted second_cmp (p ∷ ps) 0 (suc k) d rise (omega arith) within) less in
    drop_pair p ps (g ∷ gs) (first, below_all p.1 g.2 gs first all) ∙ pass_pairs k ps g gs d rise.1 all (omega arith) less

-- the grants up to one that is less than the first pair
pass_grants : (k : ℕ) (p : Pair) (ps : List Pair) (gs : List Triple) (d : Triple) → IsStrictlySortedBy third_cmp gs → AllByRecursion (λ (q : Pair). name_cmp p.1 q.1 ≡ Less) ps
    → k < length gs → name_cmp (get_or gs k d).2 p.1 ≡ Less → meets (p ∷ ps) gs ≡ meets (p ∷ ps) (drop (suc k) gs)
unfolding IsStrictlySortedBy
pass_grants k p ps [] d rise all within less = absurd (omega arith)
pass_grants zero p ps (g ∷ gs) d rise all within less = ap (λ b. b || meets (p ∷ ps) gs) (drop_grant g (p ∷ ps) (less, below_pairs g.2 p.1 ps less all))
pass_grants (suc k) p ps (g ∷ gs) d rise all within less =
    let first : name_cmp g.2 p.1 ≡ Less = name_total.trans g.2 (get_or gs k d).2 p.1 (Less-from_sorted third_cmp (g ∷ gs) 0 (suc k) d rise (omega arith) within) less in
    ap (λ b. b || meets (p ∷ ps) gs) (drop_grant g (p ∷ ps) (first, below_pairs g.2 p.1 ps first all)) ∙ pass_grants k p ps gs d rise.1 all (omega arith) less

-- ---- from place to place

pub rises-drop : {K : Type 0} (R : K → K → Ordering) (n : ℕ) (xs : List K) → IsStrictlySortedBy R xs → IsStrictlySortedBy R (drop n xs)
unfolding IsStrictlySortedBy
rises-drop R zero xs rise = rise
rises-drop R (suc n) [] rise = tt
rises-drop R (suc n) (x ∷ xs) rise = rises-drop R n xs rise.1

-- the rest of a sorted list behind a place is greater than the element there
above_first : {K : Type 0} (R : K → K → Ordering) (n : ℕ) (xs : List K) (d : K) → IsStrictlySortedBy R xs → n < length xs → AllByRecursion (λ y. R (get_or xs n d) y ≡ Less) (drop (n + 1) xs)
unfolding IsStrictlySortedBy
above_first R n xs d rise within = (subst (IsStrictlySortedBy R) (drop_more xs n d within) (rises-drop R n xs rise)).0

pub meets_past_pairs : (pairs : List Pair) (grants : List Triple) (at next past : ℕ) (g : Triple) (d : Pair) → IsStrictlySortedBy second_cmp pairs → IsStrictlySortedBy third_cmp grants
    → at < past → past ≤ length pairs → next < length grants → name_cmp (get_or pairs (past - 1) d).1 (get_or grants next g).2 ≡ Less
    → meets (drop at pairs) (drop next grants) ≡ meets (drop past pairs) (drop next grants)
meets_past_pairs pairs grants at next past g d rise rising on within there less =
    let k : ℕ = past - 1 - at in
    let place : at + k ≡ past - 1 = omega arith in
    let end : at + suc k ≡ past = omega arith in
    let first : Triple = get_or grants next g in
    let rest : drop next grants ≡ first ∷ drop (next + 1) grants = drop_more grants next g there in
    let below : name_cmp (get_or (drop at pairs) k d).1 first.2 ≡ Less = ap (λ (p : Pair). name_cmp p.1 first.2) (get_or-drop at pairs k d ∙ ap (λ i. get_or pairs i d) place) ∙ less in
    ap (meets (drop at pairs)) rest
    ∙ pass_pairs k (drop at pairs) first (drop (next + 1) grants) d (rises-drop second_cmp at pairs rise) (above_first third_cmp next grants g rising there) (omega (arith, length-drop at pairs)) below
    ∙ (λ i. meets ((drop-drop (suc k) at pairs ∙ ap (λ n. drop n pairs) end) i) (sym rest i))

pub meets_past_grants : (pairs : List Pair) (grants : List Triple) (at next past : ℕ) (p : Pair) (d : Triple) → IsStrictlySortedBy second_cmp pairs → IsStrictlySortedBy third_cmp grants
    → next < past → past ≤ length grants → at < length pairs → name_cmp (get_or grants (past - 1) d).2 (get_or pairs at p).1 ≡ Less
    → meets (drop at pairs) (drop next grants) ≡ meets (drop at pairs) (drop past grants)
meets_past_grants pairs grants at next past p d rise rising on within there less =
    let k : ℕ = past - 1 - next in
    let place : next + k ≡ past - 1 = omega arith in
    let end : next + suc k ≡ past = omega arith in
    let first : Pair = get_or pairs at p in
    let rest : drop at pairs ≡ first ∷ drop (at + 1) pairs = drop_more pairs at p there in
    let below : name_cmp (get_or (drop next grants) k d).2 first.1 ≡ Less = ap (λ (g : Triple). name_cmp g.2 first.1) (get_or-drop next grants k d ∙ ap (λ i. get_or grants i d) place) ∙ less in
    ap (λ ps. meets ps (drop next grants)) rest
    ∙ pass_grants k first (drop (at + 1) pairs) (drop next grants) d (rises-drop third_cmp next grants rising) (above_first second_cmp at pairs p rise there) (omega (arith, length-drop next grants)) below
    ∙ (λ i. meets (sym rest i) ((drop-drop (suc k) next grants ∙ ap (λ n. drop n grants) end) i))

-- the next elements of both have the same name
pub meets_here : (pairs : List Pair) (grants : List Triple) (at next : ℕ) (p : Pair) (g : Triple) → at < length pairs → next < length grants
    → name_cmp (get_or pairs at p).1 (get_or grants next g).2 ≡ Equal → meets (drop at pairs) (drop next grants) ≡ true
meets_here pairs grants at next p g there here tie =
    let pair : Pair = get_or pairs at p in
    let grant : Triple = get_or grants next g in
    let same : same_name grant.2 pair.1 ≡ true = (tie_Decides name_total name_exact grant.2 pair.1).1 (sym (name_exact pair.1 grant.2 tie)) in
    (λ i. meets (drop_more pairs at p there i) (drop_more grants next g here i))
    ∙ ap (λ b. (b || list_any (λ (q : Pair). same_name grant.2 q.1) (drop (at + 1) pairs)) || meets (pair ∷ drop (at + 1) pairs) (drop (next + 1) grants)) same

no_pairs : (grants : List Triple) → meets [] grants ≡ false
no_pairs [] = refl
no_pairs (g ∷ grants) = no_pairs grants

-- one of the two is exhausted
pub meets_no_more : (pairs : List Pair) (grants : List Triple) (at next : ℕ) → length pairs ≤ at → meets (drop at pairs) (drop next grants) ≡ false
meets_no_more pairs grants at next past = ap (λ ps. meets ps (drop next grants)) (drop_all at pairs past) ∙ no_pairs (drop next grants)

-- ---- what has none of the fingerprints is skipped

-- a role that can't be one of those with these fingerprints is none of them
apart_of : (flags : List Bool) (role other : Bytes) → may_have flags role ≡ true → may_have flags other ≡ false → (b : Bool) → same_name role other ≡ b → b ≡ false
apart_of flags role other may may_not false same = refl
apart_of flags role other may may_not true same =
    absurd (true≢false (sym may ∙ ap (may_have flags) ((tie_Decides name_total name_exact role other).0 same) ∙ may_not))

drop_unseen : (flags : List Bool) (p : Pair) (ps : List Pair) (gs : List Triple) → All (λ (h : Triple). may_have flags h.2 ≡ true) gs → may_have flags p.1 ≡ false
    → meets (p ∷ ps) gs ≡ meets ps gs
drop_unseen flags p ps [] all none = refl
drop_unseen flags p ps (h ∷ gs) all none =
    let rest : All (λ (g : Triple). may_have flags g.2 ≡ true) gs = λ k d less. all (suc k) d (omega arith) in
    λ i. (apart_of flags h.2 p.1 (all 0 h (omega arith)) none _ refl i || list_any (λ (q : Pair). same_name h.2 q.1) ps) || drop_unseen flags p ps gs rest none i

-- the first k pairs
pass_unseen : (flags : List Bool) (k : ℕ) (ps : List Pair) (gs : List Triple) → All (λ (h : Triple). may_have flags h.2 ≡ true) gs
    → ((j : ℕ) (d : Pair) → j < k → may_have flags (get_or ps j d).1 ≡ false) → k ≤ length ps → meets ps gs ≡ meets (drop k ps) gs
pass_unseen flags zero ps gs all none within = refl
pass_unseen flags (suc k) [] gs all none within = absurd (omega arith)
pass_unseen flags (suc k) (p ∷ ps) gs all none within =
    drop_unseen flags p ps gs all (none 0 p (omega arith)) ∙ pass_unseen flags k ps gs all (λ j d less. none (suc j) d (omega arith)) (omega arith)

pub meets_past_unseen : (flags : List Bool) (pairs : List Pair) (grants : List Triple) (at next past : ℕ) → All (λ (h : Triple). may_have flags h.2 ≡ true) grants
    → AllWithin (λ (pair : Pair). may_have flags pair.1 ≡ false) pairs at past → at ≤ past → past ≤ length pairs → next ≤ length grants
    → meets (drop at pairs) (drop next grants) ≡ meets (drop past pairs) (drop next grants)
meets_past_unseen flags pairs grants at next past all none on within there =
    let k : ℕ = past - at in
    let end : at + k ≡ past = omega arith in
    let rest : All (λ (h : Triple). may_have flags h.2 ≡ true) (drop next grants) =
    λ j d less. subst (λ (h : Triple). may_have flags h.2 ≡ true) (sym (get_or-drop next grants j d)) (all (next + j) d (omega (arith, length-drop next grants, less))) in
    let passed : (j : ℕ) (d : Pair) → j < k → may_have flags (get_or (drop at pairs) j d).1 ≡ false =
    λ j d less. ap (λ (p : Pair). may_have flags p.1) (get_or-drop at pairs j d) ∙ none (at + j) d (omega arith) (omega arith) in
    pass_unseen flags k (drop at pairs) (drop next grants) rest passed (omega (arith, length-drop at pairs)) ∙ (λ i. meets ((drop-drop k at pairs ∙ ap (λ n. drop n pairs) end) i) (drop next grants))

-- ---- by the runs of the activated roles

any-same : {A : Type 0} (p q : A → Bool) (xs : List A) → ((x : A) → p x ≡ q x) → list_any p xs ≡ list_any q xs
any-same p q [] same = refl
any-same p q (x ∷ xs) same = λ i. same x i || any-same p q xs same i

or_regrouped : (a b c d : Bool) → ((a || b) || (c || d)) ≡ ((a || c) || (b || d))
or_regrouped true b c d = refl
or_regrouped false true true d = refl
or_regrouped false true false d = refl
or_regrouped false false c d = refl

any-or : {A : Type 0} (p q : A → Bool) (xs : List A) → list_any (λ x. p x || q x) xs ≡ (list_any p xs || list_any q xs)
any-or p q [] = refl
any-or p q (x ∷ xs) = ap (λ b. (p x || q x) || b) (any-or p q xs) ∙ or_regrouped (p x) (q x) (list_any p xs) (list_any q xs)

any-false : {A : Type 0} (xs : List A) → list_any (λ x. false) xs ≡ false
any-false [] = refl
any-false (x ∷ xs) = any-false xs

any-swap : {A B : Type 0} (p : A → B → Bool) (xs : List A) (ys : List B) → list_any (λ x. list_any (p x) ys) xs ≡ list_any (λ y. list_any (λ x. p x y) xs) ys
any-swap p [] ys = sym (any-false ys)
any-swap p (x ∷ xs) ys = ap (λ b. list_any (p x) ys || b) (any-swap p xs ys) ∙ sym (any-or (p x) (λ y. list_any (λ z. p z y) xs) ys)

-- the activated roles, and the run of each in the closure
pub meets_reached : (edges pairs : Pairs) → IsClosure edges pairs → (held : List Pair) (grants : List Triple)
    → (meets held grants || list_any (λ (pair : Pair). meets (run_of pairs pair.1) grants) held) ≡ list_any (λ (grant : Triple). is_reached edges held grant.2) grants
meets_reached edges pairs closed held grants =
    let named : Triple → Pair → Bool = λ grant pair. same_name grant.2 pair.1 in
    let below : Triple → Pair → Bool = λ grant pair. list_any (named grant) (run_of pairs pair.1) in
    ap (λ b. meets held grants || b) (any-swap (λ (pair : Pair) (grant : Triple). below grant pair) held grants)
    ∙ sym (any-or (λ grant. list_any (named grant) held) (λ grant. list_any (below grant) held) grants)
    ∙ any-same _ _ grants (λ grant. sym (any-or (named grant) (below grant) held) ∙ any-same _ _ held (λ pair. below-are edges pairs closed pair.1 grant.2))

-- ---- the grants of a permission are in the order of their roles

after_same : (x y : Triple) (permission : Pair) → eq_by_cmp pair_cmp (permission_of x) permission ≡ true → eq_by_cmp pair_cmp (permission_of y) permission ≡ true → triple_cmp x y ≡ Less → third_cmp x y ≡ Less
after_same x y permission x_has y_has less =
    let same : permission_of x ≡ permission_of y = (tie_Decides pair_total pair_exact (permission_of x) permission).0 x_has ∙ sym ((tie_Decides pair_total pair_exact (permission_of y) permission).0 y_has) in
    let tie : pair_cmp (permission_of x) (permission_of y) ≡ Equal = ap (λ p. pair_cmp p (permission_of y)) same ∙ tied_itself pair_total (permission_of y) in
    ap (λ o. ordering_then o (third_cmp x y)) (sym tie) ∙ less

above_kept : (x : Triple) (permission : Pair) → eq_by_cmp pair_cmp (permission_of x) permission ≡ true → (ys : List Triple) → AllByRecursion (λ y. triple_cmp x y ≡ Less) ys
    → AllByRecursion (λ y. third_cmp x y ≡ Less) (filter (λ (y : Triple). eq_by_cmp pair_cmp (permission_of y) permission) ys)
above_kept x permission x_has [] all = tt
above_kept x permission x_has (y ∷ ys) all = step (eq_by_cmp pair_cmp (permission_of y) permission) refl (above_kept x permission x_has ys all.1)
  where
    kept : List Triple
    kept = filter (λ (z : Triple). eq_by_cmp pair_cmp (permission_of z) permission) ys

    step : (b : Bool) → eq_by_cmp pair_cmp (permission_of y) permission ≡ b → AllByRecursion (λ z. third_cmp x z ≡ Less) kept → AllByRecursion (λ z. third_cmp x z ≡ Less) (cond b (y ∷ kept) kept)
    step true y_has rest = (after_same x y permission x_has y_has all.0, rest)
    step false other_one rest = rest

kept_rise : (permission : Pair) (xs : List Triple) → IsStrictlySortedBy triple_cmp xs → IsStrictlySortedBy third_cmp (filter (λ (y : Triple). eq_by_cmp pair_cmp (permission_of y) permission) xs)
unfolding IsStrictlySortedBy
kept_rise permission [] rise = tt
kept_rise permission (x ∷ xs) rise = step (eq_by_cmp pair_cmp (permission_of x) permission) refl (kept_rise permission xs rise.1)
  where
    kept : List Triple
    kept = filter (λ (z : Triple). eq_by_cmp pair_cmp (permission_of z) permission) xs

    step : (b : Bool) → eq_by_cmp pair_cmp (permission_of x) permission ≡ b → IsStrictlySortedBy third_cmp kept → IsStrictlySortedBy third_cmp (cond b (x ∷ kept) kept)
    step true x_has rest = (above_kept x permission x_has xs rise.0, rest)
    step false other_one rest = rest

pub grants-rise : (grants : Triples) (object operation : Bytes) → IsStrictlySortedBy third_cmp (filter (is_grant_of object operation) (members grants))
grants-rise grants object operation = kept_rise (object, operation) (members grants) (members-rise triple_cmp grants)
