-- A full chunk in two halves.
use Rattle.std.proofs.Common.{◌≡◌, ℕ, zero, suc, ◌<◌, ◌≤◌, true, false, List, [], ◌∷◌, ◌++◌, length, take, drop, get_or, set, refl, sym, ap, subst, ◌∙◌, arith, append_assoc}
use Rattle.std.specs.List.{AllByRecursion}
use Rattle.std.specs.List as lists
use Rattle.std.specs.Vec.{vec_len, vec_capacity}
use Rattle.std.specs.declared.vec.Vec.{Vec}
use Rattle.std.specs.List.Sorted.{IsStrictlySortedBy}
use Rattle.std.specs.declared.cmp.Ordering.{Ordering}
use Rattle.std.specs.declared.cmp.Ordering.TheVariants.{Less, Greater}
use Rattle.std.specs.Ordering.{is_le}
use Rattle.std.specs.Cmp.{IsTotalOrder}
use Rattle.std.specs.FinMap.{IsAntisymmetric}
use Rattle.rbac_sets.proofs.Lists.{all_join}
use Rattle.chunked_sets.specs.Chunks.{entries_of}
use Rattle.chunked_sets.specs.private.Chunks.{AreChunks}
use Rattle.chunked_sets.specs.private.Places.{first_passes, IsHome}
use Rattle.chunked_sets.proofs.ChunkLists.{each_of, all_of, each_take, each_drop, sorted_right, entries_at, entries_join, entries_parts, filled_of}
use Rattle.chunked_sets.proofs.Homes.{before_begin, from_begin}

module _ {K Z : Type 0} where
  -- the chunks after a split
  abbrev pub halved : List (Vec K Z) → ℕ → Vec K Z → Vec K Z → List (Vec K Z)
  halved chunks at lower upper = lists.insert (set chunks at lower) (suc at) upper

  pub halved_before : (chunks : List (Vec K Z)) (at : ℕ) (lower upper : Vec K Z) → at < length chunks → take at (halved chunks at lower upper) ≡ take at chunks
  halved_before [] at lower upper within = absurd (omega arith)
  halved_before (c ∷ cs) zero lower upper within = refl
  halved_before (c ∷ cs) (suc at) lower upper within = ap (λ l. c ∷ l) (halved_before cs at lower upper (omega arith))

  pub halved_is : (chunks : List (Vec K Z)) (at : ℕ) (lower upper : Vec K Z) → at < length chunks → halved chunks at lower upper ≡ take at chunks ++ lower ∷ upper ∷ drop (suc at) chunks
  halved_is [] at lower upper within = absurd (omega arith)
  halved_is (c ∷ cs) zero lower upper within = refl
  halved_is (c ∷ cs) (suc at) lower upper within = ap (λ l. c ∷ l) (halved_is cs at lower upper (omega arith))

  pub halved_behind : (chunks : List (Vec K Z)) (at : ℕ) (lower upper : Vec K Z) → at < length chunks → drop (suc at) (halved chunks at lower upper) ≡ upper ∷ drop (suc at) chunks
  halved_behind [] at lower upper within = absurd (omega arith)
  halved_behind (c ∷ cs) zero lower upper within = refl
  halved_behind (c ∷ cs) (suc at) lower upper within = halved_behind cs at lower upper (omega arith)

  pub halved_behind_both : (chunks : List (Vec K Z)) (at : ℕ) (lower upper : Vec K Z) → at < length chunks → drop (suc (suc at)) (halved chunks at lower upper) ≡ drop (suc at) chunks
  halved_behind_both [] at lower upper within = absurd (omega arith)
  halved_behind_both (c ∷ cs) zero lower upper within = refl
  halved_behind_both (c ∷ cs) (suc at) lower upper within = halved_behind_both cs at lower upper (omega arith)

  pub halved_upper : (chunks : List (Vec K Z)) (at : ℕ) (lower upper d : Vec K Z) → at < length chunks → get_or (halved chunks at lower upper) (suc at) d ≡ upper
  halved_upper [] at lower upper d within = absurd (omega arith)
  halved_upper (c ∷ cs) zero lower upper d within = refl
  halved_upper (c ∷ cs) (suc at) lower upper d within = halved_upper cs at lower upper d (omega arith)

  pub halved_length : (chunks : List (Vec K Z)) (at : ℕ) (lower upper : Vec K Z) → at < length chunks → length (halved chunks at lower upper) ≡ suc (length chunks)
  halved_length [] at lower upper within = absurd (omega arith)
  halved_length (c ∷ cs) zero lower upper within = refl
  halved_length (c ∷ cs) (suc at) lower upper within = ap suc (halved_length cs at lower upper (omega arith))

  pub halved_entries : (chunks : List (Vec K Z)) (at : ℕ) (v lower upper : Vec K Z) → at < length chunks → v ≡ get_or chunks at v → lower.items ++ upper.items ≡ v.items
      → entries_of (halved chunks at lower upper) ≡ entries_of chunks
  halved_entries chunks at v lower upper within there both =
      let front = entries_of (take at chunks) in
      let back = entries_of (drop (suc at) chunks) in
      ap entries_of (halved_is chunks at lower upper within)
      ∙ entries_join (take at chunks) (lower ∷ upper ∷ drop (suc at) chunks)
      ∙ ap (λ l. front ++ l) (sym (append_assoc lower.items upper.items back) ∙ ap (λ l. l ++ back) both)
      ∙ ap (λ (c : Vec K Z). front ++ (c.items ++ back)) there
      ∙ sym (entries_at chunks at v within)

  pub halved_chunks : (chunks : List (Vec K Z)) (at : ℕ) (lower upper : Vec K Z) → at < length chunks → AreChunks chunks
      → (0 < vec_len lower) × (vec_len lower ≤ 128) × (128 ≤ vec_capacity lower) → (0 < vec_len upper) × (vec_len upper ≤ 128) × (128 ≤ vec_capacity upper) → AreChunks (halved chunks at lower upper)
  halved_chunks chunks at lower upper within are low high =
      let P : Vec K Z → Type 0 = λ (chunk : Vec K Z). (0 < vec_len chunk) × (vec_len chunk ≤ 128) × (128 ≤ vec_capacity chunk) in
      let each : AllByRecursion P chunks = each_of P chunks are in
      all_of P (halved chunks at lower upper) (subst (AllByRecursion P) (sym (halved_is chunks at lower upper within))
      (all_join P (take at chunks) (lower ∷ upper ∷ drop (suc at) chunks) (each_take P at chunks each) (low, (high, each_drop P (suc at) chunks each))))

module _ {K Z : Type 0} {R : K → K → Ordering} (o : IsTotalOrder R) (exact : IsAntisymmetric R) (x : K) (chunks : List (Vec K Z)) (at : ℕ) (v lower upper : Vec K Z)
    (there : v ≡ get_or chunks at v) (both : lower.items ++ upper.items ≡ v.items) (are : AreChunks chunks) (s : IsStrictlySortedBy R (entries_of chunks)) (home : IsHome R x chunks at) where
  after_sorted : IsStrictlySortedBy R (entries_of (halved chunks at lower upper))
  after_sorted = subst (IsStrictlySortedBy R) (sym (halved_entries chunks at v lower upper home.within there both)) s

  pub home_above : first_passes (λ y. is_le (R y x)) upper.items ≡ true → IsHome R x (halved chunks at lower upper) (suc at)
  home_above le =
      let now = halved chunks at lower upper in
      let long = halved_length chunks at lower upper home.within in
      record {
        within = omega (arith, long, home.within);
        below = before_begin o exact x (entries_of (take (suc at) now)) upper.items (entries_of (drop (suc (suc at)) now))
            (subst (IsStrictlySortedBy R) (entries_at now (suc at) upper (omega (arith, long, home.within)) ∙ ap
            (λ (c : Vec K Z). entries_of (take (suc at) now) ++ (c.items ++ entries_of (drop (suc (suc at)) now))) (halved_upper chunks at lower upper upper home.within)) after_sorted) le;
        above = subst (λ l. AllByRecursion (λ y. R y x ≡ Greater) (entries_of l)) (sym (halved_behind_both chunks at lower upper home.within)) home.above;
      }

  pub home_below : 0 < length upper.items → first_passes (λ y. is_le (R y x)) upper.items ≡ false → IsHome R x (halved chunks at lower upper) at
  home_below some high =
      let now = halved chunks at lower upper in
      let long = halved_length chunks at lower upper home.within in
      let rest = upper ∷ drop (suc at) chunks in
      let Filled : Vec K Z → Type 0 = λ (chunk : Vec K Z). 0 < length chunk.items in
      record {
        within = omega (arith, long, home.within);
        below = subst (λ l. AllByRecursion (λ y. R y x ≡ Less) (entries_of l)) (sym (halved_before chunks at lower upper home.within)) home.below;
        above = subst (λ l. AllByRecursion (λ y. R y x ≡ Greater) (entries_of l)) (sym (halved_behind chunks at lower upper home.within))
            (from_begin o exact x rest (some, each_drop Filled (suc at) chunks (filled_of chunks are))
            (subst (λ l. IsStrictlySortedBy R (entries_of l)) (halved_behind chunks at lower upper home.within)
            (sorted_right R (entries_of (take (suc at) now)) (entries_of (drop (suc at) now)) (subst (IsStrictlySortedBy R) (entries_parts (suc at) now) after_sorted)))
            (λ _ d. high));
      }
