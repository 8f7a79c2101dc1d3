-- A list that a loop builds of the values of a function.
use Rattle.std.proofs.Common.{◌≡◌, ℕ, ◌+◌, ◌<◌, List, [], ◌∷◌, ◌++◌, length, map, take, get_or, sym, ap, ◌∙◌}
use Rattle.std.proofs.lemmas.List.{map_more, map-append, append_assoc, append-nil}

-- with the value of f at the next item appended, the list has the values at one more item
pub mapped_more : {A B : Type 0} (f : A → B) (items : List A) (i : ℕ) (x : A) → i < length items → x ≡ get_or items i x
    → (old : List B) (entry : B) (new : List B) → entry ≡ f x → old ≡ map f (take i items) → new ≡ old ++ entry ∷ [] → new ≡ map f (take (i + 1) items)
mapped_more f items i x within is old entry new told before put =
    put ∙ (λ k. before k ++ (told ∙ ap f is) k ∷ []) ∙ sym (map_more f items i x within)

-- the same, where those items are known that are left
pub mapped_next : {A B : Type 0} (f : A → B) (left rest : List A) (x : A) → left ≡ x ∷ rest
    → (old : List B) (entry : B) (new all : List B) → entry ≡ f x → old ++ map f left ≡ all → new ≡ old ++ entry ∷ [] → new ++ map f rest ≡ all
mapped_next f left rest x is old entry new all told before put =
    ap (λ ys. ys ++ map f rest) put ∙ append_assoc old (entry ∷ []) (map f rest) ∙ (λ k. old ++ told k ∷ map f rest) ∙ ap (λ ys. old ++ map f ys) (sym is) ∙ before

-- none is left
pub mapped_whole : {A B : Type 0} (f : A → B) (left : List A) → left ≡ [] → (old all : List B) → old ++ map f left ≡ all → old ≡ all
mapped_whole f left none old all so = sym (append-nil old) ∙ ap (λ ys. old ++ map f ys) (sym none) ∙ so

-- the same of lists whose entries are mapped by g
pub mapped_next_through : {A B C : Type 0} (f : A → B) (g : C → B) (left rest : List A) (x : A) → left ≡ x ∷ rest
    → (old : List C) (entry : C) (new : List C) (all : List B) → g entry ≡ f x → map g old ++ map f left ≡ all → new ≡ old ++ entry ∷ [] → map g new ++ map f rest ≡ all
mapped_next_through f g left rest x is old entry new all told before put =
    mapped_next f left rest x is (map g old) (g entry) (map g new) all told before (ap (map g) put ∙ map-append g old (entry ∷ []))

pub mapped_more_through : {A B C : Type 0} (f : A → B) (g : C → B) (items : List A) (i : ℕ) (x : A) → i < length items → x ≡ get_or items i x
    → (old : List C) (entry : C) (new : List C) → g entry ≡ f x → map g old ≡ map f (take i items) → new ≡ old ++ entry ∷ [] → map g new ≡ map f (take (i + 1) items)
mapped_more_through f g items i x within is old entry new told before put =
    mapped_more f items i x within is (map g old) (g entry) (map g new) told before (ap (map g) put ∙ map-append g old (entry ∷ []))
