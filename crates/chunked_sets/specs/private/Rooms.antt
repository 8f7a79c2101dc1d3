-- Room for more entries: how many chunks are enough for them, wherever they belong.
use Rattle.std.specs.Prelude.{ℕ, ◌+◌, ◌-◌, ◌*◌, ◌^◌, ◌<◌, ◌≤◌, ◌⊎◌, List, length}
use Rattle.std.specs.List.{sum_by}
use Rattle.std.specs.Vec.{vec_len, vec_capacity}
use Rattle.std.specs.declared.vec.Vec.{Vec}

module _ {K Z : Type 0} where
  -- a chunk weighs `width`, and 1 more for each entry in its last `width` places. So a full chunk weighs as much as its two halves
  abbrev pub weight : ℕ → Vec K Z → ℕ
  weight width chunk = width + ((vec_len chunk + width) - 128)

  abbrev pub weight_of : ℕ → List (Vec K Z) → ℕ
  weight_of width chunks = sum_by (weight width) chunks

-- `most` chunks are enough for these and `count` more entries, by their weight. An insertion adds at most 1 to it, and a split
-- nothing. With `most` chunks, one of them full, it would be `most * width + width` at least: so none of the insertions comes upon a
-- full chunk then. `first` says the same of the first chunk, which adds `width`.
pub record IsLight {K Z : Type 0} (count : ℕ) (chunks : List (Vec K Z)) (most : ℕ) : Type 0 where
  pub width : ℕ
  pub narrow : width ≤ 64
  pub first : count < most * width
  pub all : weight_of width chunks + count < most * width + width

-- There is room for `count` more entries: `most` chunks, those that are there and spare ones, are enough, with a spare chunk for each
-- entry or by their weight. In the second case the list of spare chunks can keep each chunk that is freed.
pub record HasRoom {K Z : Type 0} (count : ℕ) (chunks : List (Vec K Z)) (capacity : ℕ) (spare : Vec (Vec K Z) Z) : Type 0 where
  pub most : ℕ
  pub listed : most ≤ capacity
  pub counted : most ≤ 2 ^ 56
  pub within : most ≤ length chunks + vec_len spare
  pub enough : (length chunks + count ≤ most) ⊎ ((most ≤ vec_capacity spare) × IsLight count chunks most)
