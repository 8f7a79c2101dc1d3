-- Bytes that were appended and consumed one after another.
use Rattle.std.proofs.Common.{ℕ, List, [], ◌++◌, Option, Some, None, refl, sym, ap, subst, ◌∙◌, append_assoc}
use Rattle.std.proofs.lemmas.List.{append-nil}
use Rattle.std.specs.Io.KnownBytes.{Appends, Consumes, Keeps}

pub Appends-none : (known : Option (List ℕ)) → Appends known known []
Appends-none None = tt
Appends-none (Some xs) = sym (append-nil xs)

pub Appends-more : (old between new : Option (List ℕ)) (xs ys : List ℕ) → Appends old between xs → Appends between new ys → Appends old new (xs ++ ys)
Appends-more None between new xs ys first later = tt
Appends-more (Some os) None new xs ys first later = absurd first
Appends-more (Some os) (Some bs) None xs ys first later = absurd later
Appends-more (Some os) (Some bs) (Some ns) xs ys first later = later ∙ ap (λ l. l ++ ys) first ∙ append_assoc os xs ys

pub Consumes-none : (known : Option (List ℕ)) → Consumes known known []
Consumes-none None = tt
Consumes-none (Some xs) = refl

pub Consumes-kept : (old new : Option (List ℕ)) → Keeps old new → Consumes old new []
Consumes-kept None new keeps = tt
Consumes-kept (Some xs) None keeps = absurd keeps
Consumes-kept (Some xs) (Some ys) keeps = sym keeps

pub Consumes-more : (old between new : Option (List ℕ)) (xs ys : List ℕ) → Consumes old between xs → Consumes between new ys → Consumes old new (xs ++ ys)
Consumes-more None between new xs ys first later = tt
Consumes-more (Some os) None new xs ys first later = absurd first
Consumes-more (Some os) (Some bs) None xs ys first later = absurd later
Consumes-more (Some os) (Some bs) (Some ns) xs ys first later = first ∙ ap (λ l. xs ++ l) later ∙ sym (append_assoc xs ys ns)

-- bytes were consumed, and then none
pub Consumes-no_more : (old between new : Option (List ℕ)) (xs : List ℕ) → Consumes old between xs → Consumes between new [] → Consumes old new xs
Consumes-no_more old between new xs first none = subst (Consumes old new) (append-nil xs) (Consumes-more old between new xs [] first none)
