-- The set of the entries of all chunks.
use Rattle.std.proofs.Common.{◌≡◌, ℕ, suc, ◌<◌, ◌≤◌, ◌^◌, Bool, false, ◌||◌, List, [], ◌∷◌, ◌++◌, length, take, drop, get_or, sym, ap, ◌∙◌, arith}
use Rattle.std.specs.List.{list_any}
use Rattle.std.specs.Vec.{vec_len, vec_capacity}
use Rattle.std.specs.declared.vec.Vec.{Vec}
use Rattle.std.specs.declared.cmp.Ordering.{Ordering}
use Rattle.std.specs.declared.cmp.Ordering.TheVariants.{Less, Greater}
use Rattle.std.specs.Ordering.{is_eq, eq_by_cmp, ordering_reverse}
use Rattle.std.specs.Cmp.{IsTotalOrder}
use Rattle.std.proofs.lemmas.List.Folds.{list_any-append}
use Rattle.std.proofs.Math.Bool.{or-false}
use Rattle.rbac_sets.specs.Sets.{contains, insert, from_list}
use Rattle.rbac_sets.proofs.SetLaws.{contains-from_list}
use Rattle.rbac_sets.proofs.InOrder.{all_map, none_passes}
use Rattle.chunked_sets.specs.Chunks.{entries_of}
use Rattle.chunked_sets.specs.private.Chunks.{AreChunks}
use Rattle.chunked_sets.specs.private.Places.{IsHome}
use Rattle.chunked_sets.proofs.ChunkLists.{each_of, entries_bound}
use Rattle.chunked_sets.proofs.Inserting.{parts_of}

pub none_in : {X : Type 0} (P : X → Type 0) (xs : List X) → xs ≡ [] → (k : ℕ) (d : X) → k < length xs → P (get_or xs k d)
none_in P xs nothing k d below = absurd (omega (arith, below, ap length nothing))

module _ {K Z : Type 0} {R : K → K → Ordering} (o : IsTotalOrder R) where
  pub contains_nothing : (x : K) (chunks : List (Vec K Z)) → length chunks ≡ 0 → false ≡ contains (from_list {R = R} (entries_of chunks)) x
  contains_nothing x [] nothing = sym (contains-from_list o [] x)
  contains_nothing x (c ∷ cs) nothing = absurd (omega arith)

  -- what is anywhere is in its chunk
  pub contains_home : (x : K) (chunks : List (Vec K Z)) (at : ℕ) (v : Vec K Z) → v ≡ get_or chunks at v → IsHome R x chunks at
      → contains (from_list {R = R} v.items) x ≡ contains (from_list {R = R} (entries_of chunks)) x
  contains_home x chunks at v there home =
      let p : K → Bool = eq_by_cmp R x in
      let front = entries_of (take at chunks) in
      let back = entries_of (drop (suc at) chunks) in
      let none_before : list_any p front ≡ false = none_passes p front (all_map (λ y. R y x ≡ Less) (λ y. p y ≡ false) (λ y e. ap is_eq (o.antisymm x y ∙ ap ordering_reverse e)) front home.below) in
      let none_behind : list_any p back ≡ false = none_passes p back (all_map (λ y. R y x ≡ Greater) (λ y. p y ≡ false) (λ y e. ap is_eq (o.antisymm x y ∙ ap ordering_reverse e)) back home.above) in
      contains-from_list o v.items x
      ∙ sym (contains-from_list o (entries_of chunks) x ∙ ap (list_any p) (parts_of chunks at v home.within there)
      ∙ list_any-append p front (v.items ++ back) ∙ ap (λ b. b || list_any p (v.items ++ back)) none_before
      ∙ list_any-append p v.items back ∙ ap (λ b. list_any p v.items || b) none_behind ∙ or-false (list_any p v.items))

pub begun : {K Z : Type 0} {R : K → K → Ordering} (x : K) (old new : List (Vec K Z)) → length old ≡ 0 → entries_of new ≡ x ∷ [] → from_list {R = R} (entries_of new) ≡ insert
    (from_list {R = R} (entries_of old)) x
unfolding from_list
begun {R = R} x [] new nothing is = ap (from_list {R = R}) is
begun {R = R} x (c ∷ cs) new nothing is = absurd (omega arith)

-- all entries can be counted
pub counted : {K Z : Type 0} (chunks : List (Vec K Z)) → AreChunks chunks → length chunks ≤ 2 ^ 56 → length (entries_of chunks) ≤ 2 ^ 63
counted {K} {Z} chunks are few =
    let bound = entries_bound chunks (each_of (λ (chunk : Vec K Z). (0 < vec_len chunk) × (vec_len chunk ≤ 128) × (128 ≤ vec_capacity chunk)) chunks are) in
    omega (arith, bound, few)
