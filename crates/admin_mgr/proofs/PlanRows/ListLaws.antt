-- Lists that a loop builds entry by entry.
use Rattle.std.proofs.Common.{◌≡◌, ℕ, ◌+◌, ◌<◌, ◌≤◌, Bool, true, false, cond, ◌&&◌, List, [], ◌∷◌, ◌++◌, length, drop, map, get_or, refl, sym, ◌∙◌, ap}
use Rattle.std.specs.Prelude.{Some, filter, find}
use Rattle.std.specs.List.{list_all}
use Rattle.std.proofs.lemmas.List.{append_assoc, append-nil, drop_more}
use Rattle.std.proofs.Math.ListN.{drop_of_length-le}

-- f of a list is h of each of its entries, one after another
pub record MakesEach {K C : Type 0} (f : List K → List C) (h : K → List C) : Type 0 where
  pub none : f [] ≡ []
  pub more : (x : K) (xs : List K) → f (x ∷ xs) ≡ h x ++ f xs

-- the list so far: what there was before, and then what f makes of the entries before index i
abbrev pub IsListed : {K C : Type 0} → (List K → List C) → List C → List K → ℕ → List C → Type 0
IsListed f before entries i listed = listed ++ f (drop i entries) ≡ before ++ f entries

-- the same, where those entries are known that are left
abbrev pub IsListedBut : {K C : Type 0} → (List K → List C) → List C → List K → List K → List C → Type 0
IsListedBut f before entries left listed = listed ++ f left ≡ before ++ f entries

module _ {K C : Type 0} (f : List K → List C) (h : K → List C) (each : MakesEach f h) where
  -- one more entry is listed
  pub listed_more : (before listed more : List C) (entries : List K) (i : ℕ) (x : K) → i < length entries → x ≡ get_or entries i x
      → IsListed f before entries i listed → more ≡ listed ++ h x → IsListed f before entries (i + 1) more
  listed_more before listed more entries i x within is so next =
      let rest = drop (i + 1) entries in
      ap (λ ys. ys ++ f rest) next
      ∙ append_assoc listed (h x) (f rest)
      ∙ ap (λ ys. listed ++ ys) (sym (each.more x rest))
      ∙ ap (λ y. listed ++ f (y ∷ rest)) is
      ∙ ap (λ ys. listed ++ f ys) (sym (drop_more entries i x within))
      ∙ so

  -- all entries are listed
  pub listed_all : (before listed : List C) (entries : List K) (i : ℕ) → length entries ≤ i → IsListed f before entries i listed → listed ≡ before ++ f entries
  listed_all before listed entries i past so =
      sym (append-nil listed) ∙ ap (λ ys. listed ++ ys) (sym (ap f (drop_of_length-le entries past) ∙ each.none)) ∙ so

  -- the first of those that are left is listed
  pub listed_next : (before listed more : List C) (entries left rest : List K) (x : K) → left ≡ x ∷ rest
      → IsListedBut f before entries left listed → more ≡ listed ++ h x → IsListedBut f before entries rest more
  listed_next before listed more entries left rest x is so next =
      ap (λ ys. ys ++ f rest) next
      ∙ append_assoc listed (h x) (f rest)
      ∙ ap (λ ys. listed ++ ys) (sym (each.more x rest) ∙ ap f (sym is))
      ∙ so

  -- none is left
  pub listed_whole : (before listed : List C) (entries left : List K) → left ≡ [] → IsListedBut f before entries left listed → listed ≡ before ++ f entries
  listed_whole before listed entries left none so =
      sym (append-nil listed) ∙ ap (λ ys. listed ++ ys) (sym (ap f none ∙ each.none)) ∙ so

-- a map, entry by entry
pub each_map : {K C : Type 0} (g : K → C) → MakesEach (map g) (λ x. g x ∷ [])
each_map g = record { none = refl; more = λ x xs. refl }

-- a map over a filter, entry by entry
pub each_filter : {K C : Type 0} (g : K → C) (test : K → Bool) → MakesEach (λ xs. map g (filter test xs)) (λ x. cond (test x) (g x ∷ []) [])
each_filter {K} g test = record { none = refl; more = λ x xs. by x xs (test x) refl }
  where
    by : (x : K) (xs : List K) (b : Bool) → test x ≡ b → map g (filter test (x ∷ xs)) ≡ cond (test x) (g x ∷ []) [] ++ map g (filter test xs)
    by x xs true is = rw is refl
    by x xs false is = rw is refl

-- a list with more appended, if both parts are known
pub listed_then : {C : Type 0} {after before more was rows : List C} → after ≡ before ++ more → before ≡ was → more ≡ rows → after ≡ was ++ rows
listed_then next before more = next ∙ (λ i. before i ++ more i)

-- whether a test holds of all entries from index i on, if it holds of the entry there, and if it doesn't
pub all_later : {K : Type 0} (p : K → Bool) (xs : List K) (i : ℕ) (x : K) → i < length xs → x ≡ get_or xs i x → p x ≡ true → list_all p (drop i xs) ≡ list_all p (drop (i + 1) xs)
all_later p xs i x within is holds = ap (list_all p) (drop_more xs i x within) ∙ ap (λ b. b && list_all p (drop (i + 1) xs)) (ap p (sym is) ∙ holds)

pub all_here : {K : Type 0} (p : K → Bool) (xs : List K) (i : ℕ) (x : K) → i < length xs → x ≡ get_or xs i x → p x ≡ false → list_all p (drop i xs) ≡ false
all_here p xs i x within is fails = ap (list_all p) (drop_more xs i x within) ∙ ap (λ b. b && list_all p (drop (i + 1) xs)) (ap p (sym is) ∙ fails)

-- the first entry from index i on that passes a test: a later one, or the entry there
pub found_later : {K : Type 0} (p : K → Bool) (xs : List K) (i : ℕ) (x : K) → i < length xs → x ≡ get_or xs i x → p x ≡ false → find p (drop i xs) ≡ find p (drop (i + 1) xs)
found_later p xs i x within is fails = ap (find p) (drop_more xs i x within) ∙ passed_over (get_or xs i x) (ap p (sym is) ∙ fails)
  where
    passed_over : (y : _) → p y ≡ false → find p (y ∷ drop (i + 1) xs) ≡ find p (drop (i + 1) xs)
    passed_over y fails = rw fails refl

pub found_here : {K : Type 0} (p : K → Bool) (xs : List K) (i : ℕ) (x : K) → i < length xs → x ≡ get_or xs i x → p x ≡ true → find p (drop i xs) ≡ Some x
found_here p xs i x within is passes = ap (find p) (drop_more xs i x within) ∙ here (get_or xs i x) (ap p (sym is) ∙ passes) ∙ ap Some (sym is)
  where
    here : (y : _) → p y ≡ true → find p (y ∷ drop (i + 1) xs) ≡ Some y
    here y passes = rw passes refl
