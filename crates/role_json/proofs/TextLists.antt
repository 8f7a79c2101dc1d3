-- Lists of JSON values as texts.
use Rattle.std.proofs.Common.{◌≡◌, ◌≤◌, ◌<◌, ◌+◌, ℕ, List, [], ◌∷◌, ◌++◌, length, Option, Some, None, suc, add-one, append_assoc, drop, get_or, ap, refl, sym}
use Rattle.std.specs.Prelude.{option_map}
use Rattle.std.proofs.lemmas.List.{append-nil, drop_all}
use Rattle.std.proofs.Math.Seq.{drop-cons}
use Rattle.serde_json.specs.Find.{as_str}
use Rattle.serde_json.specs.View.{view, items_view}
use Rattle.serde_json.specs.declared.value.Value.{Value}
use Rattle.role_json.specs.Fields.{texts_in}

-- the texts so far, and those of the remaining values
abbrev pub texts_with : List (List ℕ) → List Value → Option (List (List ℕ))
texts_with ts vs = option_map (λ us. ts ++ us) (texts_in (items_view vs))

pub texts_with-nil : (vs : List Value) → texts_in (items_view vs) ≡ texts_with [] vs
texts_with-nil vs = same (texts_in (items_view vs))
  where
    same : (o : Option (List (List ℕ))) → o ≡ option_map (λ us. [] ++ us) o
    same None = refl
    same (Some us) = refl

after_text : (ts : List (List ℕ)) (t : List ℕ) (o : Option (List (List ℕ)))
    → option_map (λ us. ts ++ us) (option_map (λ us. t ∷ us) o) ≡ option_map (λ us. (ts ++ t ∷ []) ++ us) o
after_text ts t None = refl
after_text ts t (Some us) = ap (λ (x : List (List ℕ)). Some x) (sym (append_assoc ts (t ∷ []) us))

pub texts_with-text : (ts : List (List ℕ)) (vs : List Value) (i : ℕ) (v : Value) (t : List ℕ) → i < length vs → v ≡ get_or vs i v
    → as_str (view v) ≡ Some t → texts_with ts (drop i vs) ≡ texts_with (ts ++ t ∷ []) (drop (i + 1) vs)
texts_with-text ts vs i v t h e text =
    rw (add-one i, drop-cons vs i v h, ← e, text) (after_text ts t (texts_in (items_view (drop (suc i) vs))))

pub texts_with-other : (ts : List (List ℕ)) (vs : List Value) (i : ℕ) (v : Value) → i < length vs → v ≡ get_or vs i v
    → as_str (view v) ≡ None → texts_with ts (drop i vs) ≡ None
texts_with-other ts vs i v h e text = rw (drop-cons vs i v h, ← e, text) refl

pub texts_with-end : (ts : List (List ℕ)) (vs : List Value) (i : ℕ) → length vs ≤ i → texts_with ts (drop i vs) ≡ Some ts
texts_with-end ts vs i h = rw (drop_all i vs h) (ap (λ (x : List (List ℕ)). Some x) (append-nil ts))

pub ruleset texts_steps = (texts_with-nil, texts_with-text, texts_with-other, texts_with-end)
