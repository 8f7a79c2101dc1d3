-- What is left of chunks, and of entries after them, after the first ones.
use Rattle.std.proofs.Common.{◌≡◌, ℕ, ◌+◌, ◌-◌, ◌≤◌, List, ◌∷◌, ◌++◌, length, drop, ap, sym, ◌∙◌, arith, append_assoc}
use Rattle.std.specs.declared.vec.Vec.{Vec}
use Rattle.std.proofs.Math.Seq.{drop-append-add}
use Rattle.chunked_sets.specs.Chunks.{entries_of}

module _ {K Z : Type 0} (chunk : Vec K Z) (others : List (Vec K Z)) (last : List K) (left : ℕ) where
  parts : entries_of (chunk ∷ others) ++ last ≡ chunk.items ++ (entries_of others ++ last)
  parts = append_assoc chunk.items (entries_of others) last

  -- the rest begins behind the first chunk
  pub skipped_on : length chunk.items ≤ left → drop (left - length chunk.items) (entries_of others ++ last) ≡ drop left (entries_of (chunk ∷ others) ++ last)
  skipped_on le =
      let sum : length chunk.items + (left - length chunk.items) ≡ left = omega arith in
      sym (ap (λ n. drop n (entries_of (chunk ∷ others) ++ last)) (sym sum) ∙ ap (drop (length chunk.items + (left - length chunk.items))) parts
      ∙ drop-append-add chunk.items (entries_of others ++ last) (left - length chunk.items))

-- the same, where the first entries are a list
pub skipped_past : {K : Type 0} (first rest : List K) (n : ℕ) → length first ≤ n → drop (n - length first) rest ≡ drop n (first ++ rest)
skipped_past first rest n le =
    let sum : length first + (n - length first) ≡ n = omega arith in
    sym (ap (λ m. drop m (first ++ rest)) (sym sum) ∙ drop-append-add first rest (n - length first))
