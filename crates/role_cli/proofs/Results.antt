-- What follows for the value of an Ok, and for the error of an Err.
use Rattle.std.proofs.Common.{Option, Some, None, Result, Ok, Err, inl, inr, sym, subst, ap, ◌≡◌, ◌⊎◌}
use Rattle.std.proofs.lemmas.Bool.{true≢false}
use Rattle.std.specs.Prelude.{IfErr, IfOk, IfSome, IsErr, IsOk, MatchResult, OnErr}
use Rattle.std.specs.Result.{OnOk}
use Rattle.rbac_sets.specs.declared.refusal.Refusal.{Refusal}
use Rattle.rbac_sets.specs.declared.refusal.Refusal.TheVariants.{Memory, Store}
use Rattle.role_cli.specs.Work.{IsUnwritten}
use Rattle.role_cli.specs.declared.failure.Failure.{Failure}
use Rattle.role_cli.specs.declared.failure.Failure.TheVariants.{Refused}

pub on_ok-then : {T E : Type 0} (r : Result T E) (P Q : Type 0) → OnOk r P → (P → Q) → OnOk r Q
on_ok-then (Ok t) P Q holds step = step holds
on_ok-then (Err e) P Q holds step = tt

-- two facts together
pub on_ok-join : {T E : Type 0} (r : Result T E) (P Q Z : Type 0) → OnOk r P → OnOk r Q → (P → Q → Z) → OnOk r Z
on_ok-join (Ok t) P Q Z one other step = step one other
on_ok-join (Err e) P Q Z one other step = tt

pub on_ok-holds : {T E : Type 0} (r : Result T E) (P : Type 0) → IsOk r → OnOk r P → P
on_ok-holds (Ok t) P is_ok holds = holds
on_ok-holds (Err e) P is_ok holds = absurd (true≢false (sym is_ok))

-- two facts of a value together
pub if_ok-join : {T E : Type 0} (r : Result T E) (P Q Z : T → Type 0) → IfOk r P → IfOk r Q → ((t : T) → P t → Q t → Z t) → IfOk r Z
if_ok-join (Ok t) P Q Z one other step = step t one other
if_ok-join (Err e) P Q Z one other step = tt

-- three of a value
pub if_ok-three : {T E : Type 0} (r : Result T E) (P Q R Z : T → Type 0) → IfOk r P → IfOk r Q → IfOk r R → ((t : T) → P t → Q t → R t → Z t) → IfOk r Z
if_ok-three (Ok t) P Q R Z one two three step = step t one two three
if_ok-three (Err e) P Q R Z one two three step = tt

-- and two facts of an error
pub if_err-join : {T E : Type 0} (r : Result T E) (P Q Z : E → Type 0) → IfErr r P → IfErr r Q → ((e : E) → P e → Q e → Z e) → IfErr r Z
if_err-join (Ok t) P Q Z one other step = tt
if_err-join (Err e) P Q Z one other step = step e one other

pub if_err-four : {T E : Type 0} (r : Result T E) (P Q R S Z : E → Type 0) → IfErr r P → IfErr r Q → IfErr r R → IfErr r S → ((e : E) → P e → Q e → R e → S e → Z e) → IfErr r Z
if_err-four (Ok t) P Q R S Z one two three four step = tt
if_err-four (Err e) P Q R S Z one two three four step = step e one two three four

pub if_err-five : {T E : Type 0} (r : Result T E) (P Q R S U Z : E → Type 0) → IfErr r P → IfErr r Q → IfErr r R → IfErr r S → IfErr r U
    → ((e : E) → P e → Q e → R e → S e → U e → Z e) → IfErr r Z
if_err-five (Ok t) P Q R S U Z one two three four five step = tt
if_err-five (Err e) P Q R S U Z one two three four five step = step e one two three four five

-- a refusal that became a failure, with what was written
pub unwritten : (r : Result (Unit {0}) Refusal) (m : Result (Unit {0}) Failure) (Part Fault : Type 0)
    → MatchResult r (λ _. IsOk m) (λ refusal. m ≡ Err (Refused refusal)) → OnErr r Part
    → IfErr r (λ refusal. (refusal ≡ Memory) ⊎ (refusal ≡ Store)) → (r ≡ Err Store → Fault) → IfErr m (λ failure. IsUnwritten failure Fault × Part)
unwritten (Ok u) (Ok v) Part Fault is part cause store = tt
unwritten (Ok u) (Err f) Part Fault is part cause store = absurd (true≢false (sym is))
unwritten (Err e) m Part Fault is part (inl memory) store = subst (λ m. IfErr m (λ failure. IsUnwritten failure Fault × Part)) (sym is) (inl (ap Refused memory), part)
unwritten (Err e) m Part Fault is part (inr at) store = subst (λ m. IfErr m (λ failure. IsUnwritten failure Fault × Part)) (sym is) (inr (ap Refused at, store (ap Err at)), part)

pub on_err-holds : {T E : Type 0} (r : Result T E) (P : Type 0) → IsErr r → OnErr r P → P
on_err-holds (Ok t) P is_err holds = absurd (true≢false (sym is_err))
on_err-holds (Err e) P is_err holds = holds

-- what follows once something is given
pub on_ok-given : {T E : Type 0} (r : Result T E) (Given P Q : Type 0) → (Given → OnOk r P) → ((Given → P) → Q) → OnOk r Q
on_ok-given (Ok t) Given P Q holds step = step holds
on_ok-given (Err e) Given P Q holds step = tt

pub if_err-given : {T E : Type 0} (r : Result T E) (Given : Type 0) (P Q : E → Type 0) → (Given → IfErr r P) → ((e : E) → (Given → P e) → Q e) → IfErr r Q
if_err-given (Ok t) Given P Q holds step = tt
if_err-given (Err e) Given P Q holds step = step e holds

-- an error with two facts
pub if_err-both : {T E : Type 0} (r : Result T E) (P Q : E → Type 0) → IsErr r → IfErr r P → IfErr r Q → (e : E) × P e × Q e
if_err-both (Ok t) P Q is_err one two = absurd (true≢false (sym is_err))
if_err-both (Err e) P Q is_err one two = (e, one, two)

-- what follows for a value that is there
pub if_some-then : {A : Type 0} (o : Option A) (P Q : A → Type 0) → IfSome o P → ((x : A) → P x → Q x) → IfSome o Q
if_some-then None P Q holds step = tt
if_some-then (Some x) P Q holds step = step x holds
