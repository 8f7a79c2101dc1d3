-- The first of several refusals, and the conditions that an accepted command meets.
use Rattle.std.proofs.Common.{◌≡◌, Bool, true, false, cond, List, [], ◌∷◌, ◌++◌, refl, sym}
use Rattle.std.specs.Prelude.{Option, Some, None}
use Rattle.std.specs.Option.{option_map}
use Rattle.rbac_sets.specs.declared.refusal.Refusal.{Refusal}
use Rattle.admin_mgr.specs.Refusals.{refuse_if, refuse_unless, first}

-- what is no `Some` is `None`
pub none_unless_some : {X : Type 0} (o : Option X) → ((x : X) → o ≡ Some x → ⊥) → o ≡ None
none_unless_some None h = refl
none_unless_some (Some x) h = absurd (h x refl)

-- no refusal of the list applies
abbrev pub AllPassed : List (Option Refusal) → Type 0
AllPassed [] = Unit {0}
AllPassed (refusal ∷ rest) = (refusal ≡ None) × AllPassed rest

-- there is no first refusal only if none applies
pub passed : (refusals : List (Option Refusal)) → first refusals ≡ None → AllPassed refusals
passed [] h = tt
passed (None ∷ rest) h = (refl, passed rest h)
passed (Some refusal ∷ rest) h = cc

pub refuse_if-None : (test : Bool) (refusal : Refusal) → refuse_if test refusal ≡ None → test ≡ false
refuse_if-None true refusal h = cc
refuse_if-None false refusal h = refl

pub refuse_unless-None : (test : Bool) (refusal : Refusal) → refuse_unless test refusal ≡ None → test ≡ true
refuse_unless-None true refusal h = refl
refuse_unless-None false refusal h = cc

-- an earlier refusal is the first of a longer list too
pub stopped : (refusals : List (Option Refusal)) (last : Option Refusal) (refusal : Refusal) → first refusals ≡ Some refusal → Some refusal ≡ first (refusals ++ last ∷ [])
stopped [] last refusal h = cc
stopped (None ∷ rest) last refusal h = stopped rest last refusal h
stopped (Some one ∷ rest) last refusal h = sym h

-- and of one that is longer by two
pub stopped_before : (refusals : List (Option Refusal)) (one other : Option Refusal) (refusal : Refusal) → first refusals ≡ Some refusal → Some refusal ≡ first (refusals ++ one ∷ other ∷ [])
stopped_before [] one other refusal h = cc
stopped_before (None ∷ rest) one other refusal h = stopped_before rest one other refusal h
stopped_before (Some found ∷ rest) one other refusal h = sym h

-- if none applies, the last one decides
pub last_decides : (refusals : List (Option Refusal)) (last : Option Refusal) → first refusals ≡ None → first (refusals ++ last ∷ []) ≡ last
last_decides [] None h = refl
last_decides [] (Some refusal) h = refl
last_decides (None ∷ rest) last h = last_decides rest last h
last_decides (Some one ∷ rest) last h = cc

-- if there is no first refusal, none before the last one applies, nor does the last one
pub all_but_last : (refusals : List (Option Refusal)) (last : Option Refusal) → first (refusals ++ last ∷ []) ≡ None → (first refusals ≡ None) × (last ≡ None)
all_but_last [] None h = (refl, refl)
all_but_last [] (Some refusal) h = cc
all_but_last (None ∷ rest) last h = all_but_last rest last h
all_but_last (Some refusal ∷ rest) last h = cc

pub mapped_cond : (b : Bool) {A B : Type 0} (f : A → B) (x : A) → option_map f (cond b None (Some x)) ≡ cond b None (Some (f x))
mapped_cond true f x = refl
mapped_cond false f x = refl
