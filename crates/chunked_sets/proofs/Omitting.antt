-- One entry less in its chunk, and two chunks joined.
use Rattle.std.proofs.Common.{◌≡◌, ℕ, zero, suc, ◌+◌, ◌<◌, ◌≤◌, List, [], ◌∷◌, ◌++◌, length, take, drop, get_or, set, refl, sym, ap, subst, ◌∙◌, arith, append_assoc, length-append, length-drop}
use Rattle.std.specs.List.{HoldsAt}
use Rattle.std.specs.List as lists
use Rattle.std.specs.declared.vec.Vec.{Vec}
use Rattle.std.proofs.lemmas.List.{get_or-append-add, get_or_append_left, length-take-le}
use Rattle.chunked_sets.specs.Chunks.{entries_of}
use Rattle.chunked_sets.proofs.ChunkLists.{entries_set, entries_join}
use Rattle.chunked_sets.proofs.Inserting.{parts_of}

remove_right : {X : Type 0} (l m : List X) (i n : ℕ) → n ≡ length l + i → lists.remove (l ++ m) n ≡ l ++ lists.remove m i
remove_right [] m i n is = let same : n ≡ i = omega arith in ap (lists.remove m) same
remove_right (x ∷ l) m i zero is = absurd (omega arith)
remove_right (x ∷ l) m i (suc n) is = ap (λ k. x ∷ k) (remove_right l m i n (omega arith))

remove_left : {X : Type 0} (m r : List X) (i : ℕ) → i < length m → lists.remove (m ++ r) i ≡ lists.remove m i ++ r
remove_left [] r i inside = absurd (omega arith)
remove_left (x ∷ m) r zero inside = refl
remove_left (x ∷ m) r (suc i) inside = ap (λ k. x ∷ k) (remove_left m r i (omega arith))

remove_only : {X : Type 0} (m : List X) (i : ℕ) → length m ≤ 1 → i < length m → lists.remove m i ≡ []
remove_only [] i few inside = absurd (omega arith)
remove_only (x ∷ []) zero few inside = refl
remove_only (x ∷ []) (suc i) few inside = absurd (omega arith)
remove_only (x ∷ y ∷ m) i few inside = absurd (omega arith)

pub length_removed : {X : Type 0} (xs : List X) (i : ℕ) → i < length xs → length (lists.remove xs i) + 1 ≡ length xs
length_removed xs i inside = omega (arith, length-append (take i xs) (drop (suc i) xs), length-take-le i xs (omega arith), length-drop (suc i) xs)

module _ {K Z : Type 0} where
  pub joined : (chunks : List (Vec K Z)) (at : ℕ) (v next w : Vec K Z) → suc at < length chunks → v ≡ get_or (lists.remove chunks (suc at)) at v → next ≡ get_or chunks (suc at) next
      → w.items ≡ v.items ++ next.items → entries_of (set (lists.remove chunks (suc at)) at w) ≡ entries_of chunks
  joined [] at v next w within there behind both = absurd (omega arith)
  joined (c ∷ []) at v next w within there behind both = absurd (omega arith)
  joined (c ∷ n ∷ cs) zero v next w within there behind both =
      ap (λ l. l ++ entries_of cs) (both ∙ (λ i. (there i).items ++ (behind i).items)) ∙ append_assoc c.items n.items (entries_of cs)
  joined (c ∷ n ∷ cs) (suc at) v next w within there behind both = ap (λ l. c.items ++ l) (joined (n ∷ cs) at v next w (omega arith) there behind both)

module _ {K Z : Type 0} (chunks : List (Vec K Z)) (at : ℕ) (v : Vec K Z) (found : ℕ) (within : at < length chunks) (there : v ≡ get_or chunks at v) (inside : found < length v.items) where
  abbrev front : List K
  front = entries_of (take at chunks)

  abbrev back : List K
  back = entries_of (drop (suc at) chunks)

  removed_part : front ++ (lists.remove v.items found ++ back) ≡ lists.remove (entries_of chunks) (length front + found)
  removed_part =
      ap (λ l. front ++ l) (sym (remove_left v.items back found inside))
      ∙ sym (remove_right front (v.items ++ back) found (length front + found) refl)
      ∙ ap (λ l. lists.remove l (length front + found)) (sym (parts_of chunks at v within there))

  pub removed_inside : (w : Vec K Z) → w.items ≡ lists.remove v.items found → entries_of (set chunks at w) ≡ lists.remove (entries_of chunks) (length front + found)
  removed_inside w is = entries_set chunks at w within ∙ ap (λ l. front ++ (l ++ back)) is ∙ removed_part

  pub removed_whole : length v.items ≤ 1 → entries_of (lists.remove chunks at) ≡ lists.remove (entries_of chunks) (length front + found)
  removed_whole few = entries_join (take at chunks) (drop (suc at) chunks) ∙ ap (λ l. front ++ (l ++ back)) (sym (remove_only v.items found few inside)) ∙ removed_part

  pub place_within : length front + found < length (entries_of chunks)
  place_within = omega (arith, inside, ap length (parts_of chunks at v within there), length-append front (v.items ++ back), length-append v.items back)

  pub holds_there : (P : K → Type 0) → HoldsAt P v.items found → HoldsAt P (entries_of chunks) (length front + found)
  holds_there P holds d =
      subst P (sym (ap (λ l. get_or l (length front + found) d) (parts_of chunks at v within there) ∙ get_or-append-add front (v.items ++ back) found d
      ∙ get_or_append_left v.items back d found inside)) (holds d)
