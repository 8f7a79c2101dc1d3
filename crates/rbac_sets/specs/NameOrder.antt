-- The byte orders of names, pairs and triples are total, and only equal values tie.
use Rattle.std.specs.Prelude.{◌≡◌, ◌⊎◌, ◌≤◌, refl}
use Rattle.std.proofs.Common.{inl, inr, ap, ◌∙◌, arith}
use Rattle.std.specs.declared.cmp.Ordering.{Ordering}
use Rattle.std.specs.declared.cmp.Ordering.TheVariants.{Less, Equal, Greater}
use Rattle.std.specs.Ordering.{nat_cmp, ordering_then, ordering_index, ordering_reverse}
use Rattle.std.specs.Cmp.{IsTotalOrder, nat_cmp_total, then_total, on_total}
use Rattle.std.specs.Cmp.Lexicographic.{nat_list_cmp_total}
use Rattle.std.specs.FinMap.{IsAntisymmetric, nat_cmp-IsAntisymmetric, slice_cmp-IsAntisymmetric}
use Rattle.rbac_sets.specs.Sets.{Bytes, Pair, Triple, Cardinality, name_cmp, pair_cmp, triple_cmp, cardinality_cmp}

pub name_total : IsTotalOrder name_cmp
name_total = nat_list_cmp_total

pub pair_total : IsTotalOrder pair_cmp
pair_total = then_total (on_total (λ (p : Pair). p.0) name_total) (on_total (λ (p : Pair). p.1) name_total)

pub triple_total : IsTotalOrder triple_cmp
triple_total = then_total (then_total (on_total (λ (t : Triple). t.0) name_total) (on_total (λ (t : Triple). t.1) name_total)) (on_total (λ (t : Triple). t.2) name_total)

pub cardinality_total : IsTotalOrder cardinality_cmp
cardinality_total = then_total (on_total (λ (c : Cardinality). c.0) name_total) (on_total (λ (c : Cardinality). c.1) nat_cmp_total)

pub name_exact : IsAntisymmetric name_cmp
name_exact = slice_cmp-IsAntisymmetric nat_cmp-IsAntisymmetric

both_equal : (a b : Ordering) → ordering_then a b ≡ Equal → (a ≡ Equal) × (b ≡ Equal)
both_equal Less b e = cc
both_equal Equal b e = (refl, e)
both_equal Greater b e = cc

pub pair_exact : IsAntisymmetric pair_cmp
pair_exact x y e =
    let parts = both_equal (name_cmp x.0 y.0) (name_cmp x.1 y.1) e in
    λ i. (name_exact x.0 y.0 parts.0 i, name_exact x.1 y.1 parts.1 i)

pub triple_exact : IsAntisymmetric triple_cmp
triple_exact x y e =
    let last = both_equal (ordering_then (name_cmp x.0 y.0) (name_cmp x.1 y.1)) (name_cmp x.2 y.2) e in
    let parts = both_equal (name_cmp x.0 y.0) (name_cmp x.1 y.1) last.0 in
    λ i. (name_exact x.0 y.0 parts.0 i, name_exact x.1 y.1 parts.1 i, name_exact x.2 y.2 last.1 i)

pub cardinality_exact : IsAntisymmetric cardinality_cmp
cardinality_exact x y e =
    let parts = both_equal (name_cmp x.0 y.0) (nat_cmp x.1 y.1) e in
    λ i. (name_exact x.0 y.0 parts.0 i, nat_cmp-IsAntisymmetric x.1 y.1 parts.1 i)

-- ---- the first parts of a greater entry are not less

below_at_first : (a b : Ordering) → ordering_then a b ≡ Less → (a ≡ Less) ⊎ (a ≡ Equal)
below_at_first Less b e = inl refl
below_at_first Equal b e = inr refl
below_at_first Greater b e = cc

module _ {K : Type 0} {R : K → K → Ordering} (total : IsTotalOrder R) where
  index_rises : (a b : Ordering) → (b ≡ Less → a ≡ Less) → (a ≡ Greater → b ≡ Greater) → ordering_index a ≤ ordering_index b
  index_rises Less b low high = omega arith
  index_rises Equal Less low high = let wrong : Equal ≡ Less = low refl in cc
  index_rises Equal Equal low high = omega arith
  index_rises Equal Greater low high = omega arith
  index_rises Greater b low high = rw (high refl) (omega arith)

  -- a lesser or tied value compares with z no higher
  pub rises : (x y z : K) → (R x y ≡ Less) ⊎ (R x y ≡ Equal) → ordering_index (R x z) ≤ ordering_index (R y z)
  rises x y z (inl less) = index_rises (R x z) (R y z)
      (λ below. total.trans x y z less below)
      (λ above. total.antisymm y z ∙ ap ordering_reverse (total.trans z x y (total.antisymm z x ∙ ap ordering_reverse above) less))
  rises x y z (inr tie) = rw (total.congr x y z tie) (omega arith)

pub firsts_rise : (x y : Pair) (first : Bytes) → pair_cmp x y ≡ Less → ordering_index (name_cmp x.0 first) ≤ ordering_index (name_cmp y.0 first)
firsts_rise x y first below = rises name_total x.0 y.0 first (below_at_first (name_cmp x.0 y.0) (name_cmp x.1 y.1) below)

pub cardinality_firsts_rise : (x y : Cardinality) (first : Bytes) → cardinality_cmp x y ≡ Less → ordering_index (name_cmp x.0 first) ≤ ordering_index (name_cmp y.0 first)
cardinality_firsts_rise x y first below = rises name_total x.0 y.0 first (below_at_first (name_cmp x.0 y.0) (nat_cmp x.1 y.1) below)

pub first_pairs_rise : (x y : Triple) (parts : Pair) → triple_cmp x y ≡ Less → ordering_index (pair_cmp (x.0, x.1) parts) ≤ ordering_index (pair_cmp (y.0, y.1) parts)
first_pairs_rise x y parts below = rises pair_total (x.0, x.1) (y.0, y.1) parts (below_at_first (pair_cmp (x.0, x.1) (y.0, y.1)) (name_cmp x.2 y.2) below)

at_first : (a b : Ordering) → (ordering_then a b ≡ Less) ⊎ (ordering_then a b ≡ Equal) → (a ≡ Less) ⊎ (a ≡ Equal)
at_first Less b e = inl refl
at_first Equal b e = inr refl
at_first Greater b (inl e) = cc
at_first Greater b (inr e) = cc

pub triple_firsts_rise : (x y : Triple) (first : Bytes) → triple_cmp x y ≡ Less → ordering_index (name_cmp x.0 first) ≤ ordering_index (name_cmp y.0 first)
triple_firsts_rise x y first below = rises name_total x.0 y.0 first
    (at_first (name_cmp x.0 y.0) (name_cmp x.1 y.1) (below_at_first (ordering_then (name_cmp x.0 y.0) (name_cmp x.1 y.1)) (name_cmp x.2 y.2) below))
