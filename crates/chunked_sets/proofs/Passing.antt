-- A pass over chunks: one step, and the place of an entry where it stops.
use Rattle.std.proofs.Common.{◌≡◌, ℕ, zero, suc, ◌+◌, ◌-◌, ◌<◌, ◌≤◌, true, false, List, [], ◌∷◌, ◌++◌}
use Rattle.std.proofs.Common.{length, take, drop, get_or, set, refl, sym, ap, subst, ◌∙◌, arith, append_assoc, length-append, length-drop}
use Rattle.std.specs.List.{AllByRecursion}
use Rattle.std.specs.declared.vec.Vec.{Vec}
use Rattle.std.specs.List.Sorted.{IsStrictlySortedBy}
use Rattle.std.specs.declared.cmp.Ordering.{Ordering}
use Rattle.std.specs.declared.cmp.Ordering.TheVariants.{Less, Greater}
use Rattle.std.specs.Ordering.{is_le}
use Rattle.std.specs.Cmp.{IsTotalOrder}
use Rattle.std.specs.FinMap.{IsAntisymmetric}
use Rattle.std.proofs.lemmas.List.{take_at, drop_at, set_at, get_or_at, take-append-le, drop-append-le, length-take-le}
use Rattle.chunked_sets.specs.Chunks.{entries_of}
use Rattle.chunked_sets.specs.private.Chunks.{AreChunks}
use Rattle.chunked_sets.specs.private.Places.{first_passes, IsHome}
use Rattle.chunked_sets.specs.private.Passes.{in_order, HasPassed}
use Rattle.chunked_sets.proofs.ChunkLists.{each_right, sorted_right, entries_join, filled_of}
use Rattle.chunked_sets.proofs.Homes.{before_begin, from_begin}
use Rattle.chunked_sets.proofs.Splitting.{halved, halved_is}

module _ {X : Type 0} where
  passed_core : (b : ℕ) (rest : List X) (current n : X) → b ≤ length rest → in_order b (rest ++ current ∷ []) n ≡ in_order (suc b) (n ∷ rest) current
  passed_core b rest current n le =
      (λ i. drop-append-le b rest (current ∷ []) le i ++ n ∷ take-append-le b rest (current ∷ []) le i) ∙ append_assoc (drop b rest) (current ∷ []) (n ∷ take b rest)

  pub passed_on : (ring rest now : List X) (current n : X) (ahead b : ℕ) → ahead ≡ suc b → ahead ≤ length ring → ring ≡ n ∷ rest → now ≡ rest ++ current ∷ []
      → in_order b now n ≡ in_order ahead ring current
  passed_on ring rest now current n ahead b ahead_is le ring_is now_is =
      ap (λ l. in_order b l n) now_is ∙ passed_core b rest current n (omega (arith, le, ahead_is, ap length ring_is)) ∙ sym (λ i. in_order (ahead_is i) (ring_is i) current)

  module _ (ring : List X) (ahead : ℕ) (current : X) (le : ahead ≤ length ring) where
    here : length (drop ahead ring) ≡ length ring - ahead
    here = length-drop ahead ring

    pub order_get : (d : X) → get_or (in_order ahead ring current) (length ring - ahead) d ≡ current
    order_get d = get_or_at (drop ahead ring) current (take ahead ring) d (length ring - ahead) here

    pub order_set : (w : X) → set (in_order ahead ring current) (length ring - ahead) w ≡ in_order ahead ring w
    order_set w = set_at (drop ahead ring) current (take ahead ring) w (length ring - ahead) here

    pub order_take : take (length ring - ahead) (in_order ahead ring current) ≡ drop ahead ring
    order_take = take_at (drop ahead ring) (current ∷ take ahead ring) (length ring - ahead) here

    pub order_drop : drop (suc (length ring - ahead)) (in_order ahead ring current) ≡ take ahead ring
    order_drop =
        ap (drop (suc (length ring - ahead))) (sym (append_assoc (drop ahead ring) (current ∷ []) (take ahead ring)))
        ∙ drop_at (drop ahead ring ++ current ∷ []) (take ahead ring) (suc (length ring - ahead)) (omega (arith, here, length-append (drop ahead ring) (current ∷ [])))

    pub order_within : length ring - ahead < length (in_order ahead ring current)
    order_within = omega (arith, here, length-append (drop ahead ring) (current ∷ take ahead ring))

    pub order_length : length (in_order ahead ring current) ≡ length ring + 1
    order_length = omega (arith, here, length-append (drop ahead ring) (current ∷ take ahead ring), length-take-le ahead ring le)

  -- the upper half is current, or the lower
  pub order_above : (ring now : List X) (ahead : ℕ) (lower upper : X) → ahead ≤ length ring → now ≡ ring ++ lower ∷ [] → in_order ahead now upper ≡ drop ahead ring ++ lower ∷ upper ∷ take ahead ring
  order_above ring now ahead lower upper le is =
      ap (λ l. in_order ahead l upper) is
      ∙ (λ i. drop-append-le ahead ring (lower ∷ []) le i ++ upper ∷ take-append-le ahead ring (lower ∷ []) le i) ∙ append_assoc (drop ahead ring) (lower ∷ []) (upper ∷ take ahead ring)

  first_of_take : (n : ℕ) (xs : List X) (d : X) → 0 < n → get_or (take n xs) 0 d ≡ get_or xs 0 d
  first_of_take zero xs d some = absurd (omega arith)
  first_of_take (suc n) [] d some = refl
  first_of_take (suc n) (x ∷ xs) d some = refl

  some_taken : (n : ℕ) (xs : List X) → 0 < length (take n xs) → 0 < n
  some_taken zero xs some = some
  some_taken (suc n) xs some = omega arith

module _ {K Z : Type 0} {R : K → K → Ordering} (o : IsTotalOrder R) (exact : IsAntisymmetric R) (x : K) where
  order_entries : (ahead : ℕ) (ring : List (Vec K Z)) (current : Vec K Z) → entries_of (in_order ahead ring current) ≡ entries_of (drop ahead ring) ++ (current.items ++ entries_of (take ahead ring))
  order_entries ahead ring current = entries_join (drop ahead ring) (current ∷ take ahead ring)

  -- before a chunk that begins at or before x, all are less
  pub less_before : (ahead : ℕ) (ring : List (Vec K Z)) (current : Vec K Z) → IsStrictlySortedBy R (entries_of (in_order ahead ring current)) → first_passes
      (λ y. is_le (R y x)) current.items ≡ true → HasPassed R x ahead ring
  less_before ahead ring current s le = before_begin o exact x (entries_of (drop ahead ring)) current.items (entries_of (take ahead ring))
      (subst (IsStrictlySortedBy R) (order_entries ahead ring current) s) le

  pub home_here : (ahead : ℕ) (ring : List (Vec K Z)) (current : Vec K Z) → ahead ≤ length ring → AreChunks (in_order ahead ring current) → IsStrictlySortedBy R
      (entries_of (in_order ahead ring current))
      → HasPassed R x ahead ring → (0 < ahead → (d : Vec K Z) → first_passes (λ y. is_le (R y x)) (get_or ring 0 d).items ≡ false) → IsHome R x (in_order ahead ring current) (length ring - ahead)
  home_here ahead ring current le are s passed high =
      let Filled : Vec K Z → Type 0 = λ (chunk : Vec K Z). 0 < length chunk.items in
      let filled : AllByRecursion Filled (take ahead ring) = (each_right Filled (drop ahead ring) (current ∷ take ahead ring) (filled_of (in_order ahead ring current) are)).1 in
      let sorted = sorted_right R current.items (entries_of (take ahead ring)) (sorted_right R (entries_of (drop ahead ring)) (current.items ++ entries_of (take ahead ring))
      (subst (IsStrictlySortedBy R) (order_entries ahead ring current) s)) in
      record {
        within = order_within ring ahead current le;
        below = subst (λ l. AllByRecursion (λ y. R y x ≡ Less) (entries_of l)) (sym (order_take ring ahead current le)) passed;
        above = subst (λ l. AllByRecursion (λ y. R y x ≡ Greater) (entries_of l)) (sym (order_drop ring ahead current le))
            (from_begin o exact x (take ahead ring) filled sorted
            (λ some d. ap (λ (chunk : Vec K Z). first_passes (λ y. is_le (R y x)) chunk.items) (first_of_take ahead ring d (some_taken ahead ring some)) ∙ high (some_taken ahead ring some) d));
      }

-- what the order is after a split
module _ {K Z : Type 0} (ring : List (Vec K Z)) (ahead : ℕ) (current lower upper : Vec K Z) (le : ahead ≤ length ring) where
  pub order_halved : halved (in_order ahead ring current) (length ring - ahead) lower upper ≡ drop ahead ring ++ lower ∷ upper ∷ take ahead ring
  order_halved = halved_is (in_order ahead ring current) (length ring - ahead) lower upper (order_within ring ahead current le)
      ∙ (λ i. order_take ring ahead current le i ++ lower ∷ upper ∷ order_drop ring ahead current le i)
