-- The entries of chunks at which a comparison that rises is `Equal`.
use Rattle.std.proofs.Common.{◌≡◌, ℕ, suc, ◌+◌, ◌<◌, ◌≤◌, Bool, true, false, List, [], ◌∷◌, ◌++◌, length, take, drop, get_or, filter, cond, refl, sym, ap, subst, ◌∙◌, arith, length-append}
use Rattle.std.specs.List.{AllByRecursion, All}
use Rattle.std.specs.Vec.{vec_len}
use Rattle.std.specs.declared.vec.Vec.{Vec}
use Rattle.std.specs.List.Sorted.{IsNonDecreasingBy, IsPartitionPoint, IsPartitionedBy, IsStrictlySortedBy}
use Rattle.std.specs.declared.cmp.Ordering.{Ordering}
use Rattle.std.specs.declared.cmp.Ordering.TheVariants.{Less, Equal, Greater}
use Rattle.std.specs.Ordering.{is_eq, is_lt, is_le, ordering_index}
use Rattle.std.proofs.lemmas.List.{append-nil, length-take-le, take-append-drop}
use Rattle.std.specs.Prelude.{count_by}
use Rattle.std.proofs.lemmas.List.Sums.{length-filter}
use Rattle.std.proofs.lemmas.List.Folds.{length-flat_map-take}
use Rattle.std.proofs.lemmas.List.Elements.{filter-append}
use Rattle.rbac_sets.proofs.InOrder.{all_map, all_take, all_drop}
use Rattle.chunked_sets.specs.Chunks.{entries_of}
use Rattle.chunked_sets.specs.private.Chunks.{AreChunks}
use Rattle.chunked_sets.specs.private.Places.{first_passes}
use Rattle.chunked_sets.proofs.ChunkLists.{each_of, all_of, each_left, each_right, each_take, each_drop}
use Rattle.chunked_sets.proofs.ChunkLists.{sorted_left, sorted_right, sorted_before, sorted_first, entries_join, entries_parts, filled_of}

filter_none : {K : Type 0} (p : K → Bool) (xs : List K) → AllByRecursion (λ y. p y ≡ false) xs → filter p xs ≡ []
filter_none p [] none = refl
filter_none p (x ∷ xs) none = rw none.0 (filter_none p xs none.1)

filter_each : {K : Type 0} (p : K → Bool) (xs : List K) → AllByRecursion (λ y. p y ≡ true) xs → filter p xs ≡ xs
filter_each p [] each = refl
filter_each p (x ∷ xs) each = rw each.0 (ap (λ l. x ∷ l) (filter_each p xs each.1))

each_both : {X : Type 0} (P Q S : X → Type 0) → ((x : X) → P x → Q x → S x) → (xs : List X) → AllByRecursion P xs → AllByRecursion Q xs → AllByRecursion S xs
each_both P Q S both [] p q = tt
each_both P Q S both (x ∷ xs) p q = (both x p.0 q.0, each_both P Q S both xs p.1 q.1)

-- the tests of an ordering
lt_index : (a : Ordering) → is_lt a ≡ true → ordering_index a ≡ 0
lt_index Less e = refl
lt_index Equal e = cc
lt_index Greater e = cc

index_lt : (a : Ordering) → ordering_index a ≤ 0 → is_lt a ≡ true
index_lt Less le = refl
index_lt Equal le = absurd (omega arith)
index_lt Greater le = absurd (omega arith)

not_lt_index : (a : Ordering) → is_lt a ≡ false → 1 ≤ ordering_index a
not_lt_index Less e = cc
not_lt_index Equal e = omega arith
not_lt_index Greater e = omega arith

high_not_lt : (a : Ordering) → 1 ≤ ordering_index a → is_lt a ≡ false
high_not_lt Less low = absurd (omega arith)
high_not_lt Equal low = refl
high_not_lt Greater low = refl

low_not_eq : (a : Ordering) → ordering_index a ≤ 0 → is_eq a ≡ false
low_not_eq Less le = refl
low_not_eq Equal le = absurd (omega arith)
low_not_eq Greater le = refl

eq_index : (a : Ordering) → is_eq a ≡ true → ordering_index a ≡ 1
eq_index Less e = cc
eq_index Equal e = refl
eq_index Greater e = cc

index_eq : (a : Ordering) → 1 ≤ ordering_index a → ordering_index a ≤ 1 → is_eq a ≡ true
index_eq Less low high = absurd (omega arith)
index_eq Equal low high = refl
index_eq Greater low high = absurd (omega arith)

not_le_index : (a : Ordering) → is_le a ≡ false → ordering_index a ≡ 2
not_le_index Less e = cc
not_le_index Equal e = cc
not_le_index Greater e = refl

high_not_eq : (a : Ordering) → 2 ≤ ordering_index a → is_eq a ≡ false
high_not_eq Less low = refl
high_not_eq Equal low = absurd (omega arith)
high_not_eq Greater low = refl

le_not_lt : (a : Ordering) → is_lt a ≡ false → is_le a ≡ true → is_eq a ≡ true
le_not_lt Less e h = cc
le_not_lt Equal e h = refl
le_not_lt Greater e h = cc

-- a test of first entries at two of them
pub first_both : {K : Type 0} (p q s : K → Bool) → ((y : K) → p y ≡ false → q y ≡ true → s y ≡ true) → (items : List K) → first_passes p items ≡ false → first_passes q items ≡ true
    → first_passes s items ≡ true
first_both p q s both [] e h = cc
first_both p q s both (y ∷ items) e h = both y e h

module _ {K : Type 0} (R : K → K → Ordering) (f : K → Ordering) (rises : (x y : K) → R x y ≡ Less → ordering_index (f x) ≤ ordering_index (f y)) where
  abbrev index : K → ℕ
  index y = ordering_index (f y)

  pub lt_falls : (y z : K) → R y z ≡ Less → is_lt (f z) ≡ true → is_lt (f y) ≡ true
  lt_falls y z less lt = index_lt (f y) (omega (arith, rises y z less, lt_index (f z) lt))

  pub le_falls_too : (y z : K) → R y z ≡ Less → is_le (f z) ≡ true → is_le (f y) ≡ true
  le_falls_too y z less le = from (f y) (f z) (rises y z less) le
    where
      from : (a b : Ordering) → ordering_index a ≤ ordering_index b → is_le b ≡ true → is_le a ≡ true
      from Less b below h = refl
      from Equal b below h = refl
      from Greater Less below h = absurd (omega arith)
      from Greater Equal below h = absurd (omega arith)
      from Greater Greater below h = h

  -- before a first entry at n or less, all are at n or less; from a first entry at n or more, all are
  up_to : (n : ℕ) (l r : List K) (z : K) → IsStrictlySortedBy R (l ++ z ∷ r) → index z ≤ n → AllByRecursion (λ y. index y ≤ n) l
  up_to n l r z s le = all_map (λ y. R y z ≡ Less) (λ y. index y ≤ n) (λ y less. omega (arith, rises y z less, le)) l (sorted_before R l r z s)

  down_to : (n : ℕ) (r : List K) (z : K) → IsStrictlySortedBy R (z ∷ r) → n ≤ index z → AllByRecursion (λ y. n ≤ index y) (z ∷ r)
  down_to n r z s le = (le, all_map (λ y. R z y ≡ Less) (λ y. n ≤ index y) (λ y less. omega (arith, rises z y less, le)) r (sorted_first R z r s))

  abbrev pub passes : List K → List K
  passes = filter (λ y. is_eq (f y))

  abbrev pub lows : List K → List K
  lows = filter (λ y. is_lt (f y))

  module _ {Z : Type 0} where
    last_items : (others : List (Vec K Z)) (last : Vec K Z) → entries_of (others ++ last ∷ []) ≡ entries_of others ++ last.items
    last_items others last = entries_join others (last ∷ []) ∙ ap (λ l. entries_of others ++ l) (append-nil last.items)

    -- in chunks that begin below, those that pass are in the last one
    pub passes_first : (chunks others : List (Vec K Z)) (last : Vec K Z) → chunks ≡ others ++ last ∷ [] → IsStrictlySortedBy R (entries_of chunks) → first_passes (λ y. is_lt (f y)) last.items ≡ true
        → passes last.items ≡ passes (entries_of chunks)
    passes_first chunks others last is s lt =
        let whole = ap entries_of is ∙ last_items others last in
        sym (ap passes whole ∙ filter-append (λ y. is_eq (f y)) (entries_of others) last.items ∙ ap (λ l. l ++ passes last.items) (from last.items (subst (IsStrictlySortedBy R) whole s) lt))
      where
        from : (items : List K) → IsStrictlySortedBy R (entries_of others ++ items) → first_passes (λ y. is_lt (f y)) items ≡ true → passes (entries_of others) ≡ []
        from [] t e = cc
        from (z ∷ items) t e =
            filter_none (λ y. is_eq (f y)) (entries_of others) (all_map (λ y. index y ≤ 0) (λ y. is_eq (f y) ≡ false) (λ y le. low_not_eq (f y) le) (entries_of others)
            (up_to 0 (entries_of others) items z t (omega (arith, lt_index (f z) e))))

    -- in chunks that begin below, all are below but some of the last one
    pub lows_last : (chunks others : List (Vec K Z)) (last : Vec K Z) → chunks ≡ others ++ last ∷ [] → IsStrictlySortedBy R (entries_of chunks) → first_passes (λ y. is_lt (f y)) last.items ≡ true
        → entries_of others ++ lows last.items ≡ lows (entries_of chunks)
    lows_last chunks others last is s lt =
        let whole = ap entries_of is ∙ last_items others last in
        sym (ap lows whole ∙ filter-append (λ y. is_lt (f y)) (entries_of others) last.items ∙ ap (λ l. l ++ lows last.items) (from last.items (subst (IsStrictlySortedBy R) whole s) lt))
      where
        from : (items : List K) → IsStrictlySortedBy R (entries_of others ++ items) → first_passes (λ y. is_lt (f y)) items ≡ true → lows (entries_of others) ≡ entries_of others
        from [] t e = cc
        from (z ∷ items) t e =
            filter_each (λ y. is_lt (f y)) (entries_of others) (all_map (λ y. index y ≤ 0) (λ y. is_lt (f y) ≡ true) (λ y le. index_lt (f y) le) (entries_of others)
            (up_to 0 (entries_of others) items z t (omega (arith, lt_index (f z) e))))

    -- from a chunk on that doesn't begin below, none is
    pub lows_none : (chunks : List (Vec K Z)) → AllByRecursion (λ (chunk : Vec K Z). 0 < length chunk.items) chunks → AllByRecursion
        (λ (chunk : Vec K Z). first_passes (λ y. is_lt (f y)) chunk.items ≡ false) chunks
        → IsStrictlySortedBy R (entries_of chunks) → lows (entries_of chunks) ≡ []
    lows_none [] filled begin s = refl
    lows_none (c ∷ cs) filled begin s = from c.items filled.0 begin.0 s
      where
        from : (items : List K) → 0 < length items → first_passes (λ y. is_lt (f y)) items ≡ false → IsStrictlySortedBy R (items ++ entries_of cs) → lows (items ++ entries_of cs) ≡ []
        from [] some e t = absurd (omega arith)
        from (z ∷ items) some e t =
            filter_none (λ y. is_lt (f y)) (z ∷ (items ++ entries_of cs)) (all_map (λ y. 1 ≤ index y) (λ y. is_lt (f y) ≡ false) (λ y le. high_not_lt (f y) le) (z ∷ (items ++ entries_of cs))
            (down_to 1 (items ++ entries_of cs) z t (omega (arith, not_lt_index (f z) e))))

    -- in chunks that begin with one that passes, none is below
    none_below : (chunks : List (Vec K Z)) → AllByRecursion (λ (chunk : Vec K Z). first_passes (λ y. is_eq (f y)) chunk.items ≡ true) chunks → IsStrictlySortedBy R (entries_of chunks)
        → AllByRecursion (λ y. 1 ≤ index y) (entries_of chunks)
    none_below [] begin s = tt
    none_below (c ∷ cs) begin s = from c.items begin.0 s
      where
        from : (items : List K) → first_passes (λ y. is_eq (f y)) items ≡ true → IsStrictlySortedBy R (items ++ entries_of cs) → AllByRecursion (λ y. 1 ≤ index y) (items ++ entries_of cs)
        from [] e t = cc
        from (z ∷ items) e t = down_to 1 (items ++ entries_of cs) z t (omega (arith, eq_index (f z) e))

    -- in such chunks all pass but some of the last one
    pub passes_last : (chunks others : List (Vec K Z)) (last : Vec K Z) → chunks ≡ others ++ last ∷ [] → IsStrictlySortedBy R (entries_of chunks)
        → AllByRecursion (λ (chunk : Vec K Z). first_passes (λ y. is_eq (f y)) chunk.items ≡ true) chunks → entries_of others ++ passes last.items ≡ passes (entries_of chunks)
    passes_last chunks others last is s begin =
        let whole = ap entries_of is ∙ last_items others last in
        let Begins : Vec K Z → Type 0 = λ (chunk : Vec K Z). first_passes (λ y. is_eq (f y)) chunk.items ≡ true in
        let each : AllByRecursion Begins (others ++ last ∷ []) = subst (AllByRecursion Begins) is begin in
        let low : AllByRecursion (λ y. 1 ≤ index y) (entries_of others) = each_left (λ y. 1 ≤ index y) (entries_of others) last.items
        (subst (AllByRecursion (λ y. 1 ≤ index y)) whole (none_below chunks begin s)) in
        sym (ap passes whole ∙ filter-append (λ y. is_eq (f y)) (entries_of others) last.items
        ∙ ap (λ l. l ++ passes last.items) (from last.items (subst (IsStrictlySortedBy R) whole s) (each_right Begins others (last ∷ []) each).0 low))
      where
        from : (items : List K) → IsStrictlySortedBy R (entries_of others ++ items) → first_passes (λ y. is_eq (f y)) items ≡ true → AllByRecursion (λ y. 1 ≤ index y) (entries_of others)
            → passes (entries_of others) ≡ entries_of others
        from [] t e low = cc
        from (z ∷ items) t e low =
            filter_each (λ y. is_eq (f y)) (entries_of others) (each_both (λ y. 1 ≤ index y) (λ y. index y ≤ 1) (λ y. is_eq (f y) ≡ true) (λ y above below. index_eq (f y) above below)
            (entries_of others) low
            (up_to 1 (entries_of others) items z t (omega (arith, eq_index (f z) e))))

    -- from a chunk that begins above, none passes
    pub passes_none : (chunks : List (Vec K Z)) → AllByRecursion (λ (chunk : Vec K Z). 0 < length chunk.items) chunks → AllByRecursion
        (λ (chunk : Vec K Z). first_passes (λ y. is_le (f y)) chunk.items ≡ false) chunks
        → IsStrictlySortedBy R (entries_of chunks) → passes (entries_of chunks) ≡ []
    passes_none [] filled begin s = refl
    passes_none (c ∷ cs) filled begin s = from c.items filled.0 begin.0 s
      where
        from : (items : List K) → 0 < length items → first_passes (λ y. is_le (f y)) items ≡ false → IsStrictlySortedBy R (items ++ entries_of cs) → passes (items ++ entries_of cs) ≡ []
        from [] some e t = absurd (omega arith)
        from (z ∷ items) some e t =
            filter_none (λ y. is_eq (f y)) (z ∷ (items ++ entries_of cs)) (all_map (λ y. 2 ≤ index y) (λ y. is_eq (f y) ≡ false) (λ y le. high_not_eq (f y) le) (z ∷ (items ++ entries_of cs))
            (down_to 2 (items ++ entries_of cs) z t (omega (arith, not_le_index (f z) e))))

module _ {K Z : Type 0} where
  -- the last chunk
  pub last_holds : (P : Vec K Z → Type 0) (chunks others : List (Vec K Z)) (last : Vec K Z) → chunks ≡ others ++ last ∷ [] → All P chunks → P last
  last_holds P chunks others last is all = (each_right P others (last ∷ []) (subst (AllByRecursion P) is (each_of P chunks all))).0

  pub sorted_last : (R : K → K → Ordering) (chunks others : List (Vec K Z)) (last : Vec K Z) → chunks ≡ others ++ last ∷ [] → IsStrictlySortedBy R (entries_of chunks)
      → IsStrictlySortedBy R last.items
  sorted_last R chunks others last is s =
      sorted_right R (entries_of others) last.items (subst (IsStrictlySortedBy R) (ap entries_of is ∙ entries_join others (last ∷ []) ∙ ap (λ l. entries_of others ++ l) (append-nil last.items)) s)

-- the chunks that begin below, and those behind them that begin with an entry that passes
pub record Spans {K Z : Type 0} (R : K → K → Ordering) (f : K → Ordering) (chunks low equal : List (Vec K Z)) : Type 0 where
  pub low_sorted : IsStrictlySortedBy R (entries_of low)
  pub low_below : All (λ (chunk : Vec K Z). first_passes (λ y. is_lt (f y)) chunk.items ≡ true) low
  pub equal_sorted : IsStrictlySortedBy R (entries_of equal)
  pub equal_begins : All (λ (chunk : Vec K Z). first_passes (λ y. is_eq (f y)) chunk.items ≡ true) equal
  pub whole : filter (λ y. is_eq (f y)) (entries_of low) ++ filter (λ y. is_eq (f y)) (entries_of equal) ≡ filter (λ y. is_eq (f y)) (entries_of chunks)

module _ {K Z : Type 0} (R : K → K → Ordering) (f : K → Ordering) (rises : (x y : K) → R x y ≡ Less → ordering_index (f x) ≤ ordering_index (f y))
    (chunks : List (Vec K Z)) (are : AreChunks chunks) (s : IsStrictlySortedBy R (entries_of chunks)) (after : ℕ) (rest : List (Vec K Z)) (rest_is : rest ≡ drop after chunks) where
  abbrev Filled : Vec K Z → Type 0
  Filled chunk = 0 < length chunk.items

  pub rest_filled : AllByRecursion (λ (chunk : Vec K Z). 0 < length chunk.items) rest
  rest_filled = subst (AllByRecursion (λ (chunk : Vec K Z). 0 < length chunk.items)) (sym rest_is) (each_drop (λ (chunk : Vec K Z). 0 < length chunk.items) after chunks (filled_of chunks are))

  pub rest_sorted : IsStrictlySortedBy R (entries_of rest)
  rest_sorted = subst (λ l. IsStrictlySortedBy R (entries_of l)) (sym rest_is) (sorted_right R (entries_of (take after chunks)) (entries_of (drop after chunks))
      (subst (IsStrictlySortedBy R) (entries_parts after chunks) s))

  pub spans : (low equal : List (Vec K Z)) (count : ℕ) → low ≡ take after chunks → equal ≡ take count rest → after ≤ length chunks → count ≤ length rest
      → IsPartitionPoint (λ (chunk : Vec K Z). first_passes (λ y. is_lt (f y)) chunk.items ≡ true) (λ (chunk : Vec K Z). first_passes (λ y. is_lt (f y)) chunk.items ≡ false) chunks after
      → IsPartitionPoint (λ (chunk : Vec K Z). first_passes (λ y. is_le (f y)) chunk.items ≡ true) (λ (chunk : Vec K Z). first_passes (λ y. is_le (f y)) chunk.items ≡ false) rest count
      → Spans R f chunks low equal
  spans low equal count low_is equal_is inside within lows highs =
      let p : K → Bool = λ y. is_eq (f y) in
      let Low : Vec K Z → Type 0 = λ (chunk : Vec K Z). first_passes (λ y. is_lt (f y)) chunk.items ≡ true in
      let NotLow : Vec K Z → Type 0 = λ (chunk : Vec K Z). first_passes (λ y. is_lt (f y)) chunk.items ≡ false in
      let NotHigh : Vec K Z → Type 0 = λ (chunk : Vec K Z). first_passes (λ y. is_le (f y)) chunk.items ≡ true in
      let High : Vec K Z → Type 0 = λ (chunk : Vec K Z). first_passes (λ y. is_le (f y)) chunk.items ≡ false in
      let Begins : Vec K Z → Type 0 = λ (chunk : Vec K Z). first_passes p chunk.items ≡ true in
      let not_low : AllByRecursion NotLow rest = subst (AllByRecursion NotLow) (sym rest_is) (all_drop NotLow chunks after lows.1) in
      let begins : AllByRecursion Begins (take count rest) =
      each_both NotLow NotHigh Begins (λ chunk a b. first_both (λ y. is_lt (f y)) (λ y. is_le (f y)) p (λ y e h. le_not_lt (f y) e h) chunk.items a b) (take count rest)
      (each_take NotLow count rest not_low) (all_take NotHigh rest count within highs.0) in
      let rest_parts = entries_parts count rest in
      let none : filter p (entries_of (drop count rest)) ≡ [] =
      passes_none R f rises (drop count rest) (each_drop (λ (chunk : Vec K Z). 0 < length chunk.items) count rest rest_filled) (all_drop High rest count highs.1)
      (sorted_right R (entries_of (take count rest)) (entries_of (drop count rest)) (subst (IsStrictlySortedBy R) rest_parts rest_sorted)) in
      let equal_passes : filter p (entries_of rest) ≡ filter p (entries_of (take count rest)) =
      ap (filter p) rest_parts ∙ filter-append p (entries_of (take count rest)) (entries_of (drop count rest)) ∙ ap (λ l. filter p (entries_of (take count rest)) ++ l) none ∙ append-nil
      (filter p (entries_of (take count rest))) in
      record {
        low_sorted = subst (λ l. IsStrictlySortedBy R (entries_of l)) (sym low_is) (sorted_left R (entries_of (take after chunks)) (entries_of (drop after chunks))
            (subst (IsStrictlySortedBy R) (entries_parts after chunks) s));
        low_below = subst (All Low) (sym low_is) (all_of Low (take after chunks) (all_take Low chunks after inside lows.0));
        equal_sorted = subst (λ l. IsStrictlySortedBy R (entries_of l)) (sym equal_is) (sorted_left R (entries_of (take count rest)) (entries_of (drop count rest))
            (subst (IsStrictlySortedBy R) rest_parts rest_sorted));
        equal_begins = subst (All Begins) (sym equal_is) (all_of Begins (take count rest) begins);
        whole = (λ i. filter p (entries_of (low_is i)) ++ filter p (entries_of (equal_is i)))
            ∙ ap (λ l. filter p (entries_of (take after chunks)) ++ l) (sym equal_passes ∙ ap (λ l. filter p (entries_of l)) rest_is)
            ∙ sym (filter-append p (entries_of (take after chunks)) (entries_of (drop after chunks))) ∙ ap (filter p) (sym (entries_parts after chunks));
      }

-- the chunks that begin below: all entries that are below are in them
pub record Lows {K Z : Type 0} (R : K → K → Ordering) (f : K → Ordering) (chunks low : List (Vec K Z)) : Type 0 where
  pub sorted : IsStrictlySortedBy R (entries_of low)
  pub below : All (λ (chunk : Vec K Z). first_passes (λ y. is_lt (f y)) chunk.items ≡ true) low
  pub whole : filter (λ y. is_lt (f y)) (entries_of low) ≡ filter (λ y. is_lt (f y)) (entries_of chunks)

pub begin_below : {K Z : Type 0} (R : K → K → Ordering) (f : K → Ordering) → ((x y : K) → R x y ≡ Less → ordering_index (f x) ≤ ordering_index (f y)) → (chunks : List (Vec K Z)) → AreChunks chunks
    → IsStrictlySortedBy R (entries_of chunks) → (after : ℕ) (low : List (Vec K Z)) → low ≡ take after chunks → after ≤ length chunks
    → IsPartitionPoint (λ (chunk : Vec K Z). first_passes (λ y. is_lt (f y)) chunk.items ≡ true) (λ (chunk : Vec K Z). first_passes (λ y. is_lt (f y)) chunk.items ≡ false) chunks after
    → Lows R f chunks low
begin_below {K} {Z} R f rises chunks are s after low low_is inside parted =
    let p : K → Bool = λ y. is_lt (f y) in
    let Low : Vec K Z → Type 0 = λ (chunk : Vec K Z). first_passes p chunk.items ≡ true in
    let NotLow : Vec K Z → Type 0 = λ (chunk : Vec K Z). first_passes p chunk.items ≡ false in
    let front = entries_of (take after chunks) in
    let back = entries_of (drop after chunks) in
    let parts : IsStrictlySortedBy R (front ++ back) = subst (IsStrictlySortedBy R) (entries_parts after chunks) s in
    let none : filter p back ≡ [] =
    lows_none R f rises (drop after chunks) (each_drop (λ (chunk : Vec K Z). 0 < length chunk.items) after chunks (filled_of chunks are)) (all_drop NotLow chunks after parted.1)
    (sorted_right R front back parts) in
    record {
      sorted = subst (λ l. IsStrictlySortedBy R (entries_of l)) (sym low_is) (sorted_left R front back parts);
      below = subst (All Low) (sym low_is) (all_of Low (take after chunks) (all_take Low chunks after inside parted.0));
      whole = ap (λ l. filter p (entries_of l)) low_is
          ∙ sym (ap (filter p) (entries_parts after chunks) ∙ filter-append p front back ∙ ap (λ l. filter p front ++ l) none ∙ append-nil (filter p front));
    }

-- those that pass come first, and end there
pub count_parted : {K : Type 0} (p : K → Bool) (xs : List K) (i : ℕ) → i ≤ length xs → IsPartitionPoint (λ y. p y ≡ true) (λ y. p y ≡ false) xs i → i ≡ count_by p xs
count_parted p xs i within parts =
    let front : filter p (take i xs) ≡ take i xs = filter_each p (take i xs) (all_take (λ y. p y ≡ true) xs i within parts.0) in
    let back : filter p (drop i xs) ≡ [] = filter_none p (drop i xs) (all_drop (λ y. p y ≡ false) xs i parts.1) in
    let kept : filter p xs ≡ take i xs =
    ap (filter p) (sym (take-append-drop i xs)) ∙ filter-append p (take i xs) (drop i xs) ∙ rw (front, back) (append-nil (take i xs)) in
    sym (length-take-le i xs within) ∙ ap length (sym kept) ∙ length-filter p xs

not_above : (a b : Ordering) → ordering_index a ≤ ordering_index b → is_le b ≡ true → is_le a ≡ true
not_above Less b le e = refl
not_above Equal b le e = refl
not_above Greater Less le e = absurd (omega arith)
not_above Greater Equal le e = absurd (omega arith)
not_above Greater Greater le e = cc

-- the entries that aren't greater come first
pub not_greater_first : {K : Type 0} (f : K → Ordering) (xs : List K) → IsNonDecreasingBy (λ y. ordering_index (f y)) xs → IsPartitionedBy (λ y. is_le (f y)) xs
not_greater_first f xs rise i j d le within low = not_above (f (get_or xs i d)) (f (get_or xs j d)) (rise i j d le within) low

-- those that aren't greater are the lesser and the equal ones
not_greater : {K : Type 0} (f : K → Ordering) (xs : List K)
    → length (filter (λ y. is_lt (f y)) xs) + length (filter (λ y. is_eq (f y)) xs) ≡ length (filter (λ y. is_le (f y)) xs)
not_greater f [] = refl
not_greater {K} f (x ∷ xs) = from (f x) (not_greater f xs)
  where
    from : (a : Ordering) → length (filter (λ y. is_lt (f y)) xs) + length (filter (λ y. is_eq (f y)) xs) ≡ length (filter (λ y. is_le (f y)) xs)
        → length (cond (is_lt a) (x ∷ filter (λ y. is_lt (f y)) xs) (filter (λ y. is_lt (f y)) xs)) + length (cond (is_eq a) (x ∷ filter (λ y. is_eq (f y)) xs) (filter (λ y. is_eq (f y)) xs))
        ≡ length (cond (is_le a) (x ∷ filter (λ y. is_le (f y)) xs) (filter (λ y. is_le (f y)) xs))
    from Less e = omega arith
    from Equal e = omega arith
    from Greater e = e

pub count_not_greater : {K : Type 0} (f : K → Ordering) (xs : List K) → count_by (λ y. is_lt (f y)) xs + length (filter (λ y. is_eq (f y)) xs) ≡ count_by (λ y. is_le (f y)) xs
count_not_greater f xs =
    let below = length-filter (λ y. is_lt (f y)) xs in
    let all = length-filter (λ y. is_le (f y)) xs in
    omega (arith, below, all, not_greater f xs)

pub length_filter : {K : Type 0} (p : K → Bool) (xs : List K) → length (filter p xs) ≤ length xs
length_filter p [] = omega arith
length_filter p (x ∷ xs) = from (p x) (length_filter p xs)
  where
    from : (b : Bool) → length (filter p xs) ≤ length xs → length (cond b (x ∷ filter p xs) (filter p xs)) ≤ suc (length xs)
    from true le = omega arith
    from false le = omega arith

pub counted_run : {K Z : Type 0} (first last : List K) (chunks : List (Vec K Z)) (i : ℕ) (c : Vec K Z) → i < length chunks → c ≡ get_or chunks i c
    → (length first + length last) + length (entries_of (take i chunks)) + vec_len c ≤ length (first ++ (entries_of chunks ++ last))
counted_run {K} {Z} first last chunks i c inside there =
    let part = length-flat_map-take (λ (chunk : Vec K Z). chunk.items) chunks i c inside in
    let same : length (get_or chunks i c).items ≡ vec_len c = ap (λ (chunk : Vec K Z). length chunk.items) (sym there) ∙ sym c.ok.0 in
    omega (arith, part, same, length-append first (entries_of chunks ++ last), length-append (entries_of chunks) last)
