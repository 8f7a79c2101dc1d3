-- Room for more entries: what a change of chunks adds to their weight, and what it leaves of the room.
use Rattle.std.proofs.Common.{◌≡◌, ℕ, zero, suc, ◌+◌, ◌-◌, ◌*◌, ◌^◌, ◌<◌, ◌≤◌, ◌⊎◌, inl, inr, min, max, List, [], ◌∷◌}
use Rattle.std.proofs.Common.{length, get_or, set, sym, ap, subst, arith, suc-mul, zero-mul, mul-le-mul_right}
use Rattle.std.specs.List as lists
use Rattle.std.specs.Vec.{vec_len, vec_capacity}
use Rattle.std.specs.declared.vec.Vec.{Vec}
use Rattle.std.proofs.lemmas.Bool.{cases_lt}
use Rattle.std.proofs.lemmas.List.Sums.{sum_by-cons, sum_by-set, sum_by-remove}
use Rattle.chunked_sets.specs.private.Rooms.{weight, weight_of, IsLight, HasRoom}
use Rattle.chunked_sets.specs.private.Growth.{GrowsBy}
use Rattle.chunked_sets.proofs.Omitting.{length_removed}

-- ---- the numbers of one change: the weight s before it and t after it

more_in_one : (s t a b m width : ℕ) → t + (width + ((a + width) - 128)) ≡ s + (width + ((b + width) - 128)) → b ≤ a + m → t ≤ max width s + m
more_in_one s t a b m width same more = omega arith

in_one : (s r t a b c width : ℕ) → r + (width + ((b + width) - 128)) ≡ s → t + (width + ((a + width) - 128)) ≡ r + (width + ((c + width) - 128)) → c ≡ a + b → c ≤ 128 → t ≤ max width s + 0
in_one s r t a b c width less same both fits = omega arith

one_less : (s t a width : ℕ) → t + a ≡ s → t ≤ max width s + 0
one_less s t a width less = omega arith

in_two_steps : (s r t m width : ℕ) → r ≤ max width s + 0 → t ≤ max width r + m → t ≤ max width s + m
in_two_steps s r t m width first second = omega arith

low_more : (width n s t a : ℕ) → n * width ≤ s → t ≡ (width + ((a + width) - 128)) + s → suc n * width ≤ t
low_more width n s t a low more = omega (arith, suc-mul n width, low, more)

full_first : (width n s t a : ℕ) → n * width ≤ s → t ≡ (width + ((a + width) - 128)) + s → 128 ≤ a → suc n * width + width ≤ t
full_first width n s t a low more full = omega (arith, suc-mul n width, low, more, full)

full_later : (width n s t a : ℕ) → n * width + width ≤ s → t ≡ (width + ((a + width) - 128)) + s → suc n * width + width ≤ t
full_later width n s t a low more = omega (arith, suc-mul n width, low, more)

pub fewer_times : (n most width : ℕ) → n * width < most * width → n < most
fewer_times n most width less = from (cases_lt n most)
  where
    from : (n < most) ⊎ (most ≤ n) → n < most
    from (inl below) = below
    from (inr above) = absurd (omega (arith, less, mul-le-mul_right width above))

some_times : (most width count : ℕ) → count < most * width → 0 < most
some_times zero width count less = absurd (omega (arith, less, zero-mul width))
some_times (suc most) width count less = omega arith

heavier : (s t m k width p : ℕ) → t ≤ max width s + m → k + m < p → s + (k + m) < p + width → t + k < p + width
heavier s t m k width p more first all = omega arith

-- ---- what a change adds to the weight

module _ {K Z : Type 0} where
  weight_set : (width : ℕ) (chunks : List (Vec K Z)) (at : ℕ) (v w : Vec K Z) → at < length chunks → v ≡ get_or chunks at v
      → weight_of width (set chunks at w) + weight width v ≡ weight_of width chunks + weight width w
  weight_set width chunks at v w within there =
      subst (λ (c : Vec K Z). weight_of width (set chunks at w) + weight width c ≡ weight_of width chunks + weight width w) (sym there) (sum_by-set (weight width) chunks at w v within)

  weight_removed : (width : ℕ) (chunks : List (Vec K Z)) (at : ℕ) (v : Vec K Z) → at < length chunks → v ≡ get_or chunks at v
      → weight_of width (lists.remove chunks at) + weight width v ≡ weight_of width chunks
  weight_removed width chunks at v within there =
      subst (λ (c : Vec K Z). weight_of width (lists.remove chunks at) + weight width c ≡ weight_of width chunks) (sym there) (sum_by-remove (weight width) chunks at v within)

  pub grows_none : (chunks : List (Vec K Z)) → GrowsBy 0 chunks chunks
  grows_none chunks = λ width narrow. one_less (weight_of width chunks) (weight_of width chunks) 0 width (omega arith)

  pub grows_on : (m : ℕ) (old mid new : List (Vec K Z)) → GrowsBy 0 old mid → GrowsBy m mid new → GrowsBy m old new
  grows_on m old mid new first second = λ width narrow. in_two_steps (weight_of width old) (weight_of width mid) (weight_of width new) m width (first width narrow) (second width narrow)

  pub grows_set : (m : ℕ) (chunks : List (Vec K Z)) (at : ℕ) (v w : Vec K Z) → at < length chunks → v ≡ get_or chunks at v → vec_len w ≤ vec_len v + m → GrowsBy m chunks (set chunks at w)
  grows_set m chunks at v w within there more = λ width narrow.
      more_in_one (weight_of width chunks) (weight_of width (set chunks at w)) (vec_len v) (vec_len w) m width (weight_set width chunks at v w within there) more

  pub grows_joined : (chunks : List (Vec K Z)) (at : ℕ) (v next w : Vec K Z) → suc at < length chunks → v ≡ get_or (lists.remove chunks (suc at)) at v → next ≡ get_or chunks (suc at) next
      → vec_len w ≡ vec_len v + vec_len next → vec_len w ≤ 128 → GrowsBy 0 chunks (set (lists.remove chunks (suc at)) at w)
  grows_joined chunks at v next w within there behind both fits = λ width narrow.
      let rest = lists.remove chunks (suc at) in
      let inside : at < length rest = omega (arith, within, length_removed chunks (suc at) within) in
      in_one (weight_of width chunks) (weight_of width rest) (weight_of width (set rest at w)) (vec_len v) (vec_len next) (vec_len w) width
      (weight_removed width chunks (suc at) next within behind) (weight_set width rest at v w inside there) both fits

  pub grows_removed : (chunks : List (Vec K Z)) (at : ℕ) (v : Vec K Z) → at < length chunks → v ≡ get_or chunks at v → GrowsBy 0 chunks (lists.remove chunks at)
  grows_removed chunks at v within there = λ width narrow.
      one_less (weight_of width chunks) (weight_of width (lists.remove chunks at)) (weight width v) width (weight_removed width chunks at v within there)

  -- ---- what chunks weigh at least

  pub weight_low : (width : ℕ) (chunks : List (Vec K Z)) → length chunks * width ≤ weight_of width chunks
  weight_low width [] = omega (arith, zero-mul width)
  weight_low width (c ∷ cs) = low_more width (length cs) (weight_of width cs) (weight_of width (c ∷ cs)) (vec_len c) (weight_low width cs) (sum_by-cons (weight width) c cs)

  weight_full : (width : ℕ) (chunks : List (Vec K Z)) (at : ℕ) (v : Vec K Z) → at < length chunks → v ≡ get_or chunks at v → 128 ≤ vec_len v → length chunks * width + width ≤ weight_of width chunks
  weight_full width [] at v within there full = absurd (omega arith)
  weight_full width (c ∷ cs) zero v within there full =
      full_first width (length cs) (weight_of width cs) (weight_of width (c ∷ cs)) (vec_len c) (weight_low width cs) (sum_by-cons (weight width) c cs)
      (subst (λ (chunk : Vec K Z). 128 ≤ vec_len chunk) there full)
  weight_full width (c ∷ cs) (suc at) v within there full =
      full_later width (length cs) (weight_of width cs) (weight_of width (c ∷ cs)) (vec_len c) (weight_full width cs at v (omega arith) there full) (sum_by-cons (weight width) c cs)

-- ---- room

-- what a change leaves for others if it inserts m entries
pub record Leaves {K Z : Type 0} (m : ℕ) (old new : List (Vec K Z)) (capacity capacity_new : ℕ) (spare spare_new : Vec (Vec K Z) Z) : Type 0 where
  pub grows : GrowsBy m old new
  pub len : length new ≤ length old + m
  pub listed : capacity ≤ capacity_new
  pub spare_len : vec_len spare ≤ vec_len spare_new + m
  pub total : min (length old + vec_len spare) (vec_capacity spare) ≤ length new + vec_len spare_new
  pub kept : vec_capacity spare ≤ vec_capacity spare_new

module _ {K Z : Type 0} where
  abbrev Enough : ℕ → List (Vec K Z) → ℕ → Vec (Vec K Z) Z → Type 0
  Enough count chunks most spare = (length chunks + count ≤ most) ⊎ ((most ≤ vec_capacity spare) × IsLight count chunks most)

  light_less : (j k most : ℕ) (chunks : List (Vec K Z)) → j ≤ k → IsLight k chunks most → IsLight j chunks most
  light_less j k most chunks less light = record { width = light.width; narrow = light.narrow; first = omega (arith, less, light.first); all = omega (arith, less, light.all) }

  enough_less : (j k most : ℕ) (chunks : List (Vec K Z)) (spare : Vec (Vec K Z) Z) → j ≤ k → Enough k chunks most spare → Enough j chunks most spare
  enough_less j k most chunks spare less (inl each) = inl (omega arith)
  enough_less j k most chunks spare less (inr light) = inr (light.0, light_less j k most chunks less light.1)

  -- room for fewer
  pub room_less : (j k : ℕ) (chunks : List (Vec K Z)) (capacity : ℕ) (spare : Vec (Vec K Z) Z) → j ≤ k → HasRoom k chunks capacity spare → HasRoom j chunks capacity spare
  room_less j k chunks capacity spare less room = record {
    most = room.most;
    listed = room.listed;
    counted = room.counted;
    within = room.within;
    enough = enough_less j k room.most chunks spare less room.enough;
  }

  light_after : (m k most : ℕ) (old new : List (Vec K Z)) → GrowsBy m old new → IsLight (k + m) old most → IsLight k new most
  light_after m k most old new grows light = record {
    width = light.width;
    narrow = light.narrow;
    first = omega (arith, light.first);
    all = heavier (weight_of light.width old) (weight_of light.width new) m k light.width (most * light.width) (grows light.width light.narrow) light.first light.all;
  }

  room_from : (m k most : ℕ) (old new : List (Vec K Z)) (capacity capacity_new : ℕ) (spare spare_new : Vec (Vec K Z) Z) → Leaves m old new capacity capacity_new spare spare_new
      → most ≤ capacity → most ≤ 2 ^ 56 → most ≤ length old + vec_len spare → Enough (k + m) old most spare → HasRoom k new capacity_new spare_new
  room_from m k most old new capacity capacity_new spare spare_new step listed counted within (inl each) = record {
    most = length new + k;
    listed = omega (arith, step.len, each, listed, step.listed);
    counted = omega (arith, step.len, each, counted);
    within = omega (arith, each, within, step.spare_len);
    enough = inl (omega arith);
  }
  room_from m k most old new capacity capacity_new spare spare_new step listed counted within (inr light) = record {
    most = most;
    listed = omega (arith, listed, step.listed);
    counted = counted;
    within = omega (arith, within, light.0, step.total);
    enough = inr (omega (arith, light.0, step.kept), light_after m k most old new step.grows light.1);
  }

  pub room_after : {m : ℕ} {old new : List (Vec K Z)} {capacity capacity_new : ℕ} {spare spare_new : Vec (Vec K Z) Z} → Leaves m old new capacity capacity_new spare spare_new
      → (k : ℕ) → HasRoom (k + m) old capacity spare → HasRoom k new capacity_new spare_new
  room_after {m} {old} {new} {capacity} {capacity_new} {spare} {spare_new} step k room =
      room_from m k room.most old new capacity capacity_new spare spare_new step room.listed room.counted room.within room.enough

  -- what leaves room for all leaves room for one more than they need
  pub room_kept : {old new : List (Vec K Z)} {capacity capacity_new : ℕ} {spare spare_new : Vec (Vec K Z) Z} → Leaves 0 old new capacity capacity_new spare spare_new
      → (k : ℕ) → HasRoom k old capacity spare → HasRoom k new capacity_new spare_new
  room_kept {old} {new} {capacity} {capacity_new} {spare} {spare_new} step k room = room_after step k (room_less (k + 0) k old capacity spare (omega arith) room)

  -- more memory
  pub room_wider : (old new : List (Vec K Z)) (capacity capacity_new : ℕ) (spare spare_new : Vec (Vec K Z) Z) → new ≡ old → capacity ≤ capacity_new → vec_len spare ≤ vec_len spare_new
      → vec_capacity spare ≤ vec_capacity spare_new → (k : ℕ) → HasRoom k old capacity spare → HasRoom k new capacity_new spare_new
  room_wider old new capacity capacity_new spare spare_new same listed free kept k room =
      let step : Leaves 0 old new capacity capacity_new spare spare_new = record {
        grows = subst (GrowsBy 0 old) (sym same) (grows_none old);
        len = omega (arith, ap length same);
        listed = listed;
        spare_len = omega (arith, free);
        total = omega (arith, ap length same, free);
        kept = kept;
      } in
      room_kept step k room

  pub room_none : (chunks : List (Vec K Z)) (capacity : ℕ) (spare : Vec (Vec K Z) Z) → length chunks ≤ capacity → length chunks ≤ 2 ^ 56 → HasRoom 0 chunks capacity spare
  room_none chunks capacity spare listed counted = record { most = length chunks; listed = listed; counted = counted; within = omega arith; enough = inl (omega arith) }

  -- a spare chunk for each entry
  pub room_for_each : (count : ℕ) (chunks : List (Vec K Z)) (capacity : ℕ) (spare : Vec (Vec K Z) Z) → length chunks + count ≤ capacity → length chunks + count ≤ 2 ^ 56 → count ≤ vec_len spare
      → HasRoom count chunks capacity spare
  room_for_each count chunks capacity spare listed counted free = record { most = length chunks + count; listed = listed; counted = counted; within = omega arith; enough = inl (omega arith) }

  -- as many chunks as are enough
  pub room_for_all : (count most : ℕ) (chunks : List (Vec K Z)) (capacity : ℕ) (spare : Vec (Vec K Z) Z) → (length chunks + count ≤ most) ⊎ IsLight count chunks most
      → most ≤ capacity → most ≤ 2 ^ 56 → most ≤ length chunks + vec_len spare → most ≤ vec_capacity spare → HasRoom count chunks capacity spare
  room_for_all count most chunks capacity spare (inl each) listed counted within kept = record { most = most; listed = listed; counted = counted; within = within; enough = inl each }
  room_for_all count most chunks capacity spare (inr light) listed counted within kept = record { most = most; listed = listed; counted = counted; within = within; enough = inr (kept, light) }

  -- ---- what room for one entry is enough for

  light_split : (chunks : List (Vec K Z)) (most at : ℕ) (v : Vec K Z) → at < length chunks → v ≡ get_or chunks at v → 128 ≤ vec_len v → IsLight 1 chunks most → length chunks < most
  light_split chunks most at v within there full light =
      fewer_times (length chunks) most light.width (omega (arith, light.all, weight_full light.width chunks at v within there full))

  below_most : (chunks : List (Vec K Z)) (capacity : ℕ) (spare : Vec (Vec K Z) Z) (room : HasRoom 1 chunks capacity spare) → length chunks < room.most
      → (0 < vec_len spare) × (length chunks < capacity) × (length chunks < 2 ^ 56)
  below_most chunks capacity spare room less = (omega (arith, less, room.within), omega (arith, less, room.listed), omega (arith, less, room.counted))

  -- a full chunk can be split
  pub room_to_split : (chunks : List (Vec K Z)) (capacity : ℕ) (spare : Vec (Vec K Z) Z) (at : ℕ) (v : Vec K Z) → at < length chunks → v ≡ get_or chunks at v → 128 ≤ vec_len v
      → HasRoom 1 chunks capacity spare → (0 < vec_len spare) × (length chunks < capacity) × (length chunks < 2 ^ 56)
  room_to_split chunks capacity spare at v within there full room = below_most chunks capacity spare room (from room.enough)
    where
      from : Enough 1 chunks room.most spare → length chunks < room.most
      from (inl each) = omega arith
      from (inr light) = light_split chunks room.most at v within there full light.1

  -- a first chunk can be made
  pub room_to_begin : (chunks : List (Vec K Z)) (capacity : ℕ) (spare : Vec (Vec K Z) Z) → length chunks ≡ 0 → HasRoom 1 chunks capacity spare
      → (0 < vec_len spare) × (length chunks < capacity) × (length chunks < 2 ^ 56)
  room_to_begin chunks capacity spare nothing room = below_most chunks capacity spare room (from room.enough)
    where
      from : Enough 1 chunks room.most spare → length chunks < room.most
      from (inl each) = omega arith
      from (inr light) = omega (arith, nothing, some_times room.most light.1.width 1 light.1.first)
