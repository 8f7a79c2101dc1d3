-- No limit is exceeded exactly if the relations are within the limits.
use Rattle.std.proofs.Common.{◌≡◌, ℕ, ◌≤◌, Bool, true, false, cond, List, [], ◌∷◌, refl, sym, ◌∙◌, inl, inr, arith}
use Rattle.std.specs.Prelude.{Some, None, find, nat_lt}
use Rattle.std.proofs.lemmas.Bool.{cases_lt, lt-ltb, ltb-false, ltb-true, true≢false, false_from_ne_true, or_parts, or_from}
use Rattle.rbac_sets.specs.Sets.{Bytes, Pair, Pairs, len, seconds}
use Rattle.rbac_sets.specs.NameOrder.{name_total, name_exact, pair_total, pair_exact}
use Rattle.rbac_sets.proofs.SetLaws.{any-Decides, seconds-Decides}
use Rattle.rbac_sets.proofs.Members.{a_member}
use Rattle.rbac_sets.specs.Kind.{limit_of}
use Rattle.rbac_sets.specs.declared.kind.Kind.{Kind}
use Rattle.rbac_sets.specs.declared.kind.Kind.TheVariants.{Member}
use Rattle.admin_mgr.specs.RbacState.{RbacState}
use Rattle.admin_mgr.specs.Good.{IsWithinLimits}
use Rattle.admin_mgr.specs.RowChecks.{first_exceeded, is_exceeded, has_more_with_first, limited_kinds}

-- no item of the list passes the test
abbrev NonePass : {X : Type 0} → (X → Bool) → List X → Type 0
NonePass p [] = Unit {0}
NonePass p (x ∷ xs) = (p x ≡ false) × NonePass p xs

-- if nothing is found, no item passes
none_found : {X : Type 0} (p : X → Bool) (xs : List X) → find p xs ≡ None → NonePass p xs
none_found p [] h = tt
none_found {X} p (x ∷ xs) h = by (none_found p xs) (p x) refl h
  where
    by : (find p xs ≡ None → NonePass p xs) → (b : Bool) → p x ≡ b → cond b (Some x) (find p xs) ≡ None → (p x ≡ false) × NonePass p xs
    by rest true e h = cc
    by rest false e h = (e, rest h)

-- if something is found, some item passes
one_found : {X : Type 0} (p : X → Bool) (xs : List X) (x : X) → find p xs ≡ Some x → NonePass p xs → ⊥
one_found p [] x h none = cc
one_found {X} p (y ∷ xs) x h none = by (one_found p xs x) (p y) refl h
  where
    by : (find p xs ≡ Some x → NonePass p xs → ⊥) → (b : Bool) → p y ≡ b → cond b (Some y) (find p xs) ≡ Some x → ⊥
    by rest true e h = true≢false (sym e ∙ none.0)
    by rest false e h = rest h none.1

-- a number that is at most the limit doesn't exceed it
not_more : (limit n : ℕ) → n ≤ limit → nat_lt limit n ≡ false
not_more limit n most = false_from_ne_true _ (λ h. (let more = ltb-true limit n h in absurd (omega (arith, more, most))))

-- if the test fails, no first name has more pairs than the limit
few_behind : (limit : ℕ) (pairs : Pairs) → has_more_with_first limit pairs ≡ false → (first : Bytes) → len (seconds pairs first) ≤ limit
few_behind limit pairs none first = elim (cases_lt limit (len (seconds pairs first))) [
  | inl more ↦
      let some = a_member name_total name_exact (seconds pairs first) (omega (arith, more)) in
      let there = (seconds-Decides pairs first some.0).0 some.1 in
      absurd (true≢false (sym ((any-Decides pair_total pair_exact (λ (pair : Pair). nat_lt limit (len (seconds pairs pair.0))) pairs).1 ((first, some.0), there, lt-ltb limit (len (seconds pairs first)) more)) ∙ none))
  | inr few ↦ few
]

-- and conversely
behind_few : (limit : ℕ) (pairs : Pairs) → ((first : Bytes) → len (seconds pairs first) ≤ limit) → has_more_with_first limit pairs ≡ false
behind_few limit pairs few = false_from_ne_true _ (λ h.
    (let one = (any-Decides pair_total pair_exact (λ (pair : Pair). nat_lt limit (len (seconds pairs pair.0))) pairs).0 h in
    let most = few one.0.0 in absurd (omega (arith, ltb-true limit (len (seconds pairs one.0.0)) one.2, most))))

-- if no limit is exceeded, the relations are within all limits
pub within_limits : (S : RbacState) → first_exceeded S ≡ None → IsWithinLimits S
within_limits S none =
    let each = none_found (is_exceeded S) limited_kinds none in
    let members = or_parts (has_more_with_first (limit_of Member S.version) S.ssd.members) _ each.1.1.1.1.1.1.1.1.1.0 in
    search (each, members, ltb-false, few_behind)

-- if the relations are within all limits, none is exceeded
pub no_limit_passed : (S : RbacState) (kind : Kind) → IsWithinLimits S → first_exceeded S ≡ Some kind → ⊥
no_limit_passed S kind within found = one_found (is_exceeded S) limited_kinds kind found (search (within, not_more, behind_few, or_from) parts 14)
