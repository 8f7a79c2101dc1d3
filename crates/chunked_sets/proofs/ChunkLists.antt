-- The entries of all chunks, one after the other: the parts before a chunk, of it, and behind it.
use Rattle.std.proofs.Common.{◌≡◌, ℕ, zero, suc, ◌*◌, ◌<◌, ◌≤◌, List, [], ◌∷◌, ◌++◌, length, take, drop, get_or, set, refl, sym, ap, ◌∙◌, arith, append_assoc, length-append}
use Rattle.std.specs.List.{AllByRecursion}
use Rattle.std.specs.Vec.{vec_len, vec_capacity}
use Rattle.std.specs.declared.vec.Vec.{Vec}
use Rattle.std.specs.List.Sorted.{IsStrictlySortedBy}
use Rattle.std.specs.declared.cmp.Ordering.{Ordering}
use Rattle.std.specs.declared.cmp.Ordering.TheVariants.{Less}
use Rattle.std.proofs.lemmas.List.{take-append-drop}
use Rattle.std.proofs.lemmas.List.Concat.{flat_map-append}
use Rattle.chunked_sets.specs.Chunks.{entries_of}
use Rattle.chunked_sets.specs.private.Chunks.{AreChunks}

-- ---- what holds of each item

module _ {X : Type 0} (P : X → Type 0) where
  pub each_of : (xs : List X) → ((k : ℕ) (d : X) → k < length xs → P (get_or xs k d)) → AllByRecursion P xs
  each_of [] each = tt
  each_of (x ∷ xs) each = (each 0 x (omega arith), each_of xs (λ k d below. each (suc k) d (omega arith)))

  pub all_of : (xs : List X) → AllByRecursion P xs → (k : ℕ) (d : X) → k < length xs → P (get_or xs k d)
  all_of [] each k d below = absurd (omega arith)
  all_of (x ∷ xs) each zero d below = each.0
  all_of (x ∷ xs) each (suc k) d below = all_of xs each.1 k d (omega arith)

  pub each_left : (xs ys : List X) → AllByRecursion P (xs ++ ys) → AllByRecursion P xs
  each_left [] ys each = tt
  each_left (x ∷ xs) ys each = (each.0, each_left xs ys each.1)

  pub each_right : (xs ys : List X) → AllByRecursion P (xs ++ ys) → AllByRecursion P ys
  each_right [] ys each = each
  each_right (x ∷ xs) ys each = each_right xs ys each.1

  pub each_take : (n : ℕ) (xs : List X) → AllByRecursion P xs → AllByRecursion P (take n xs)
  each_take zero xs each = tt
  each_take (suc n) [] each = tt
  each_take (suc n) (x ∷ xs) each = (each.0, each_take n xs each.1)

  pub each_drop : (n : ℕ) (xs : List X) → AllByRecursion P xs → AllByRecursion P (drop n xs)
  each_drop zero xs each = each
  each_drop (suc n) [] each = tt
  each_drop (suc n) (x ∷ xs) each = each_drop n xs each.1

  pub each_set : (xs : List X) (i : ℕ) (y : X) → AllByRecursion P xs → P y → AllByRecursion P (set xs i y)
  each_set [] i y each here = tt
  each_set (x ∷ xs) zero y each here = (here, each.1)
  each_set (x ∷ xs) (suc i) y each here = (each.0, each_set xs i y each.1 here)

-- ---- parts of lists in strict order

module _ {K : Type 0} (R : K → K → Ordering) where
  pub sorted_left : (l r : List K) → IsStrictlySortedBy R (l ++ r) → IsStrictlySortedBy R l
  unfolding IsStrictlySortedBy
  sorted_left [] r s = tt
  sorted_left (x ∷ l) r s = (each_left (λ y. R x y ≡ Less) l r s.0, sorted_left l r s.1)

  pub sorted_right : (l r : List K) → IsStrictlySortedBy R (l ++ r) → IsStrictlySortedBy R r
  unfolding IsStrictlySortedBy
  sorted_right [] r s = s
  sorted_right (x ∷ l) r s = sorted_right l r s.1

  -- what is before an item is less
  pub sorted_before : (l r : List K) (x : K) → IsStrictlySortedBy R (l ++ x ∷ r) → AllByRecursion (λ y. R y x ≡ Less) l
  unfolding IsStrictlySortedBy
  sorted_before [] r x s = tt
  sorted_before (y ∷ l) r x s = ((each_right (λ z. R y z ≡ Less) l (x ∷ r) s.0).0, sorted_before l r x s.1)

  pub sorted_first : (x : K) (r : List K) → IsStrictlySortedBy R (x ∷ r) → AllByRecursion (λ y. R x y ≡ Less) r
  unfolding IsStrictlySortedBy
  sorted_first x r s = s.0

  pub sorted_nil : IsStrictlySortedBy R []
  unfolding IsStrictlySortedBy
  sorted_nil = tt

  pub sorted_one : (x : K) → IsStrictlySortedBy R (x ∷ [])
  unfolding IsStrictlySortedBy
  sorted_one x = (tt, tt)

-- ---- the entries of chunks

module _ {K Z : Type 0} where
  pub entries_join : (xs ys : List (Vec K Z)) → entries_of (xs ++ ys) ≡ entries_of xs ++ entries_of ys
  entries_join xs ys = flat_map-append (λ (chunk : Vec K Z). chunk.items) xs ys

  pub entries_parts : (n : ℕ) (chunks : List (Vec K Z)) → entries_of chunks ≡ entries_of (take n chunks) ++ entries_of (drop n chunks)
  entries_parts n chunks = ap entries_of (sym (take-append-drop n chunks)) ∙ entries_join (take n chunks) (drop n chunks)

  pub entries_at : (chunks : List (Vec K Z)) (at : ℕ) (d : Vec K Z) → at < length chunks
      → entries_of chunks ≡ entries_of (take at chunks) ++ ((get_or chunks at d).items ++ entries_of (drop (suc at) chunks))
  entries_at [] at d below = absurd (omega arith)
  entries_at (c ∷ cs) zero d below = refl
  entries_at (c ∷ cs) (suc at) d below =
      ap (λ l. c.items ++ l) (entries_at cs at d (omega arith)) ∙ sym (append_assoc c.items (entries_of (take at cs)) ((get_or cs at d).items ++ entries_of (drop (suc at) cs)))

  -- another chunk in its place
  pub entries_set : (chunks : List (Vec K Z)) (at : ℕ) (v : Vec K Z) → at < length chunks
      → entries_of (set chunks at v) ≡ entries_of (take at chunks) ++ (v.items ++ entries_of (drop (suc at) chunks))
  entries_set [] at v below = absurd (omega arith)
  entries_set (c ∷ cs) zero v below = refl
  entries_set (c ∷ cs) (suc at) v below =
      ap (λ l. c.items ++ l) (entries_set cs at v (omega arith)) ∙ sym (append_assoc c.items (entries_of (take at cs)) (v.items ++ entries_of (drop (suc at) cs)))

  -- no more than 128 entries a chunk
  pub entries_bound : (chunks : List (Vec K Z)) → AllByRecursion (λ (chunk : Vec K Z). (0 < vec_len chunk) × (vec_len chunk ≤ 128) × (128 ≤ vec_capacity chunk)) chunks
      → length (entries_of chunks) ≤ 128 * length chunks
  entries_bound [] each = omega arith
  entries_bound (c ∷ cs) each =
      let here : vec_len c ≤ 128 = each.0.1 in
      omega (arith, here, entries_bound cs each.1, length-append c.items (entries_of cs), c.ok.0)

  pub filled_of : (chunks : List (Vec K Z)) → AreChunks chunks → AllByRecursion (λ (chunk : Vec K Z). 0 < length chunk.items) chunks
  filled_of chunks are = each_of (λ (chunk : Vec K Z). 0 < length chunk.items) chunks (λ k d below. omega (arith, (are k d below).0, (get_or chunks k d).ok.0))
