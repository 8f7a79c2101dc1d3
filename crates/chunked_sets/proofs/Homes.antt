-- The chunk of an entry: those whose first entries are not greater come first, and the last of them is the entry's.
use Rattle.std.proofs.Common.{◌≡◌, ℕ, zero, suc, ◌-◌, ◌<◌, ◌≤◌, Bool, true, false, List, [], ◌∷◌, ◌++◌, length, take, drop, get_or, refl, sym, ap, subst, ◌∙◌, arith}
use Rattle.std.specs.List.{AllByRecursion, AllWithin}
use Rattle.std.specs.declared.vec.Vec.{Vec}
use Rattle.std.specs.List.Sorted.{IsStrictlySortedBy, IsPartitionPoint}
use Rattle.std.specs.declared.cmp.Ordering.{Ordering}
use Rattle.std.specs.declared.cmp.Ordering.TheVariants.{Less, Equal, Greater}
use Rattle.std.specs.Ordering.{is_le, ordering_reverse}
use Rattle.std.specs.Cmp.{IsTotalOrder}
use Rattle.std.specs.FinMap.{IsAntisymmetric}
use Rattle.rbac_sets.proofs.InOrder.{all_map}
use Rattle.chunked_sets.specs.Chunks.{entries_of}
use Rattle.chunked_sets.specs.private.Places.{first_passes, IsHome}
use Rattle.chunked_sets.proofs.ChunkLists.{each_left, each_right, each_drop, sorted_right, sorted_before, sorted_first, entries_parts, entries_at}

greater_of_not_le : (a : Ordering) → is_le a ≡ false → a ≡ Greater
greater_of_not_le Less e = cc
greater_of_not_le Equal e = cc
greater_of_not_le Greater e = refl

abbrev Filled : {K Z : Type 0} → Vec K Z → Type 0
Filled chunk = 0 < length chunk.items

-- a test of each first entry holds of all chunks up to a place, if it holds at the place and passes on to lesser entries
module _ {K Z : Type 0} (R : K → K → Ordering) (p : K → Bool) (falls : (y z : K) → R y z ≡ Less → p z ≡ true → p y ≡ true) where
  abbrev begins : Vec K Z → Bool
  begins chunk = first_passes p chunk.items

  -- the first of a chunk that is behind
  first_behind : (y : K) (cs : List (Vec K Z)) (j : ℕ) (d : Vec K Z) → j < length cs → AllByRecursion (λ z. R y z ≡ Less) (entries_of cs) → begins (get_or cs j d) ≡ true → p y ≡ true
  first_behind y [] j d below less passes = absurd (omega arith)
  first_behind y (c ∷ cs) zero d below less passes = from c.items (each_left (λ z. R y z ≡ Less) c.items (entries_of cs) less) passes
    where
      from : (items : List K) → AllByRecursion (λ z. R y z ≡ Less) items → first_passes p items ≡ true → p y ≡ true
      from [] each e = cc
      from (z ∷ items) each e = falls y z each.0 e
  first_behind y (c ∷ cs) (suc j) d below less passes = first_behind y cs j d (omega arith) (each_right (λ z. R y z ≡ Less) c.items (entries_of cs) less) passes

  pub begins_first : (chunks : List (Vec K Z)) → AllByRecursion Filled chunks → IsStrictlySortedBy R (entries_of chunks)
      → (i j : ℕ) (d : Vec K Z) → i ≤ j → j < length chunks → begins (get_or chunks j d) ≡ true → begins (get_or chunks i d) ≡ true
  begins_first [] filled s i j d le below passes = absurd (omega arith)
  begins_first (c ∷ cs) filled s zero zero d le below passes = passes
  begins_first (c ∷ cs) filled s zero (suc j) d le below passes = from c.items filled.0 s
    where
      from : (items : List K) → 0 < length items → IsStrictlySortedBy R (items ++ entries_of cs) → first_passes p items ≡ true
      from [] some t = absurd (omega arith)
      from (y ∷ items) some t = first_behind y cs j d (omega arith) (each_right (λ z. R y z ≡ Less) items (entries_of cs) (sorted_first R y (items ++ entries_of cs) t)) passes
  begins_first (c ∷ cs) filled s (suc i) zero d le below passes = absurd (omega arith)
  begins_first (c ∷ cs) filled s (suc i) (suc j) d le below passes = begins_first cs filled.1 (sorted_right R c.items (entries_of cs) s) i j d (omega arith) (omega arith) passes

module _ {K : Type 0} {R : K → K → Ordering} (o : IsTotalOrder R) (exact : IsAntisymmetric R) (x : K) where
  below_le : (y z : K) → R y z ≡ Less → is_le (R z x) ≡ true → R y x ≡ Less
  below_le y z less le = step (R z x) refl le
    where
      step : (a : Ordering) → R z x ≡ a → is_le a ≡ true → R y x ≡ Less
      step Less e h = o.trans y z x less e
      step Equal e h = ap (R y) (sym (exact z x e)) ∙ less
      step Greater e h = cc

  pub le_falls : (y z : K) → R y z ≡ Less → is_le (R z x) ≡ true → is_le (R y x) ≡ true
  le_falls y z less le = ap is_le (below_le y z less le)

  above_greater : (z y : K) → R z y ≡ Less → R z x ≡ Greater → R y x ≡ Greater
  above_greater z y less greater = o.antisymm y x ∙ ap ordering_reverse (o.trans x z y (o.antisymm x z ∙ ap ordering_reverse greater) less)

  -- before the first entry of a chunk that is not greater, all are less
  pub before_begin : (l items r : List K) → IsStrictlySortedBy R (l ++ (items ++ r)) → first_passes (λ y. is_le (R y x)) items ≡ true → AllByRecursion (λ y. R y x ≡ Less) l
  before_begin l [] r s le = cc
  before_begin l (z ∷ items) r s le = all_map (λ y. R y z ≡ Less) (λ y. R y x ≡ Less) (λ y less. below_le y z less le) l (sorted_before R l (items ++ r) z s)

module _ {K Z : Type 0} {R : K → K → Ordering} (o : IsTotalOrder R) (exact : IsAntisymmetric R) (x : K) where
  -- from a first entry that is greater, all are greater
  pub from_begin : (cs : List (Vec K Z)) → AllByRecursion Filled cs → IsStrictlySortedBy R (entries_of cs) →
      (0 < length cs → (d : Vec K Z) → first_passes (λ y. is_le (R y x)) (get_or cs 0 d).items ≡ false)
      → AllByRecursion (λ y. R y x ≡ Greater) (entries_of cs)
  from_begin [] filled s high = tt
  from_begin (c ∷ cs) filled s high = from c.items filled.0 (high (omega arith) c) s
    where
      from : (items : List K) → 0 < length items → first_passes (λ y. is_le (R y x)) items ≡ false → IsStrictlySortedBy R (items ++ entries_of cs) → AllByRecursion (λ y. R y x ≡ Greater)
          (items ++ entries_of cs)
      from [] some e t = absurd (omega arith)
      from (z ∷ items) some e t =
          let greater : R z x ≡ Greater = greater_of_not_le (R z x) e in
          (greater, all_map (λ y. R z y ≡ Less) (λ y. R y x ≡ Greater) (λ y less. above_greater o exact x z y less greater) (items ++ entries_of cs) (sorted_first R z (items ++ entries_of cs) t))

  first_of_drop : (chunks : List (Vec K Z)) (n : ℕ) (d : Vec K Z) → get_or (drop n chunks) 0 d ≡ get_or chunks n d
  first_of_drop chunks zero d = refl
  first_of_drop [] (suc n) d = refl
  first_of_drop (c ∷ cs) (suc n) d = first_of_drop cs n d

  length_of_drop : (chunks : List (Vec K Z)) (n : ℕ) → 0 < length (drop n chunks) → n < length chunks
  length_of_drop chunks zero some = some
  length_of_drop [] (suc n) some = absurd (omega arith)
  length_of_drop (c ∷ cs) (suc n) some = let rest = length_of_drop cs n some in omega arith

  behind : (chunks : List (Vec K Z)) (n : ℕ) → AllByRecursion Filled chunks → IsStrictlySortedBy R (entries_of chunks)
      → AllWithin (λ (chunk : Vec K Z). first_passes (λ y. is_le (R y x)) chunk.items ≡ false) chunks n (length chunks) → AllByRecursion (λ y. R y x ≡ Greater) (entries_of (drop n chunks))
  behind chunks n filled s high =
      from_begin (drop n chunks) (each_drop Filled n chunks filled) (sorted_right R (entries_of (take n chunks)) (entries_of (drop n chunks))
      (subst (IsStrictlySortedBy R) (entries_parts n chunks) s))
      (λ some d. ap (λ (chunk : Vec K Z). first_passes (λ y. is_le (R y x)) chunk.items) (first_of_drop chunks n d) ∙ high n d (omega arith) (length_of_drop chunks n some))

  pub home : (chunks : List (Vec K Z)) (after : ℕ) → AllByRecursion Filled chunks → IsStrictlySortedBy R (entries_of chunks) → 0 < length chunks → after ≤ length chunks
      → IsPartitionPoint (λ (chunk : Vec K Z). first_passes (λ y. is_le (R y x)) chunk.items ≡ true) (λ (chunk : Vec K Z). first_passes (λ y. is_le (R y x)) chunk.items ≡ false) chunks after
      → IsHome R x chunks (after - 1)
  home [] after filled s some within parts = absurd (omega arith)
  home (c ∷ cs) zero filled s some within parts = record {
    within = omega arith;
    below = tt;
    above = each_right (λ y. R y x ≡ Greater) c.items (entries_of cs) (behind (c ∷ cs) 0 filled s parts.1);
  }
  home (c ∷ cs) (suc a) filled s some within parts =
      let same : a ≡ suc a - 1 = omega arith in
      subst (IsHome R x (c ∷ cs)) same (record {
        within = omega arith;
        below = before_begin o exact x (entries_of (take a (c ∷ cs))) (get_or (c ∷ cs) a c).items (entries_of (drop (suc a) (c ∷ cs)))
            (subst (IsStrictlySortedBy R) (entries_at (c ∷ cs) a c (omega arith)) s) (parts.0 a c (omega arith) (omega arith));
        above = behind (c ∷ cs) (suc a) filled s parts.1;
      })
