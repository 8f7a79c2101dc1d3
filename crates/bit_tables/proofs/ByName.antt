-- Maps by names, after one change.
use Rattle.std.proofs.Common.{◌≡◌, ◌≢◌, Bool, ◌⊎◌, List, [], ◌∷◌, ◌++◌, String, length, take, drop, string_bytes, inl, inr, refl, sym, ◌∙◌, ap, subst, arith}
use Rattle.std.specs.Prelude.{get_or, Option, Some, None}
use Rattle.std.specs.Str.{bytes_eq}
use Rattle.std.specs.String.{string_eq}
use Rattle.std.specs.Map.{lookup, update}
use Rattle.std.specs.Cmp.Lexicographic.{bytes_decides}
use Rattle.std.proofs.lemmas.Bool.{cases_Bool, true≢false, false_from_ne_true, cond-true, cond-false}
use Rattle.std.proofs.lemmas.List.{drop_at, take_at}
use Rattle.rbac_sets.specs.Sets.{Bytes, Pair}
use Rattle.bit_tables.specs.Tables.{joined}

-- names are the same or not
pub same_bytes : (a b : Bytes) → (a ≡ b) ⊎ (a ≢ b)
same_bytes a b = elim (cases_Bool (bytes_eq a b)) [
  | inl is ↦ inl ((bytes_decides a b).0 is)
  | inr differ ↦ inr (λ same. true≢false (sym ((bytes_decides a b).1 same) ∙ differ))
]

-- and so are pairs of names
pub same_pair : (a b : Pair) → (a ≡ b) ⊎ (a ≢ b)
same_pair a b = elim (same_bytes a.0 b.0) [
  | inl first ↦ elim (same_bytes a.1 b.1) [
    | inl second ↦ inl (λ i. (first i, second i))
    | inr differ ↦ inr (λ same. differ (ap (λ (p : Pair). p.1) same))
  ]
  | inr differ ↦ inr (λ same. differ (ap (λ (p : Pair). p.0) same))
]

module _ {A : Type 0} (f g : Bytes → Option A) (name : Bytes) (w : Option A) (changed : (other : Bytes) → g other ≡ update bytes_eq f name w other) where
  -- at the name
  pub updated_here : g name ≡ w
  updated_here = changed name ∙ cond-true (bytes_eq name name) w (f name) ((bytes_decides name name).1 refl)

  -- at any other
  pub updated_other : (other : Bytes) → other ≢ name → g other ≡ f other
  updated_other other differ =
      changed other ∙ cond-false (bytes_eq name other) w (f other) (false_from_ne_true (bytes_eq name other) (λ is. differ (sym ((bytes_decides name other).0 is))))

-- a value taken out and put back changed
module _ {A : Type 0} (old mid new : Bytes → Option A) (name key : Bytes) (w : Option A) (is : key ≡ name)
    (taken : (other : Bytes) → mid other ≡ update bytes_eq old name None other) (put : (other : Bytes) → new other ≡ update bytes_eq mid key w other) where
  pub moved_here : new name ≡ w
  moved_here = ap new (sym is) ∙ updated_here mid new key w put

  pub moved_other : (other : Bytes) → other ≢ name → new other ≡ old other
  moved_other other differ = updated_other mid new key w put other (λ same. differ (same ∙ is)) ∙ updated_other old mid name None taken other differ

-- what is read of a map at any name, by what is read at the one name that changed
pub read_others : {A : Type 0} (read : Option A → Bool) (old new : Bytes → Option A) (name other : Bytes) → ((x : Bytes) → x ≢ name → new x ≡ old x) → (other ≡ name → read (new name) ≡ read (old name)) → read (new other) ≡ read (old other)
read_others read old new name other others at = elim (same_bytes other name) [
  | inl same ↦ ap (λ x. read (new x)) same ∙ at same ∙ sym (ap (λ x. read (old x)) same)
  | inr differ ↦ ap read (others other differ)
]

pub no_entries : {A : Type 0} (entries : List A) → length entries ≡ 0 → entries ≡ []
no_entries [] none = refl
no_entries (x ∷ entries) none = absurd (omega (arith, none))

-- a name at which a map has an entry is the text of a key
some_key : {A Y : Type 0} (entries : List (String Y × A)) (name : Bytes) (x : A) → lookup (λ k. bytes_eq name (string_bytes k)) entries ≡ Some x → (key : String Y) × (name ≡ string_bytes key)
some_key [] name x is = (let clash : None ≡ Some x = is in absurd (none-some x clash))
  where
    none-some : {X : Type 0} (x : X) → None ≡ Some x → ⊥
    none-some x e = cc
some_key (entry ∷ entries) name x is = elim (cases_Bool (bytes_eq name (string_bytes entry.0))) [
  | inl same ↦ (entry.0, (bytes_decides name (string_bytes entry.0)).0 same)
  | inr differ ↦ some_key entries name x (sym (cond-false (bytes_eq name (string_bytes entry.0)) (Some entry.1) (lookup (λ k. bytes_eq name (string_bytes k)) entries) differ) ∙ is)
]

-- maps that have the same at each key have the same at each name
pub same_by_text : {A Y : Type 0} (old new : List (String Y × A)) → ((key : String Y) → lookup (string_eq key) new ≡ lookup (string_eq key) old) → (name : Bytes)
    → lookup (λ k. bytes_eq name (string_bytes k)) new ≡ lookup (λ k. bytes_eq name (string_bytes k)) old
same_by_text {A} {Y} old new same name = by (at new) (at old) refl refl
  where
    at : List (String Y × A) → Option A
    at entries = lookup (λ k. bytes_eq name (string_bytes k)) entries

    by_key : (key : String Y) → name ≡ string_bytes key → at new ≡ at old
    by_key key is = subst (λ text. lookup (λ k. bytes_eq text (string_bytes k)) new ≡ lookup (λ k. bytes_eq text (string_bytes k)) old) (sym is) (same key)

    by : (a b : Option A) → at new ≡ a → at old ≡ b → at new ≡ at old
    by None None is_new is_old = is_new ∙ sym is_old
    by (Some x) b is_new is_old = let key = some_key new name x is_new in by_key key.0 key.1
    by None (Some x) is_new is_old = let key = some_key old name x is_old in by_key key.0 key.1

-- two names are found again in the one text of both
pub joined_same : (a b c d : Bytes) → joined a b ≡ joined c d → (a ≡ c) × (b ≡ d)
joined_same a b c d same = (
  sym (take_at a b (length a) refl) ∙ ap (take (length a)) rest ∙ take_at c d (length a) (sym size),
  sym (drop_at a b (length a) refl) ∙ ap (drop (length a)) rest ∙ drop_at c d (length a) (sym size),
)
  where
    size : length a ≡ length c
    size = ap (λ l. get_or l 0 0) same

    rest : a ++ b ≡ c ++ d
    rest = ap (λ l. drop 1 l) same

-- what two values that are there have in common
pub same_some : {X : Type 0} (a b : X) → Some a ≡ Some b → a ≡ b
same_some a b same = cc

pub some_none : {X : Type 0} (a : X) → Some a ≡ None → ⊥
some_none a same = cc
