-- One entry more in the chunk of its place.
use Rattle.std.proofs.Common.{◌≡◌, ℕ, suc, ◌+◌, ◌<◌, ◌≤◌, Bool, false, ◌||◌, List, [], ◌∷◌, ◌++◌, length, take, drop, get_or, set, refl, sym, ap, subst, ◌∙◌, arith, append_assoc, length-append}
use Rattle.std.specs.List.{AllByRecursion, list_any}
use Rattle.std.specs.List as lists
use Rattle.std.specs.declared.vec.Vec.{Vec}
use Rattle.std.specs.List.Sorted.{IsStrictlySortedBy, IsPartitionPoint}
use Rattle.std.specs.declared.cmp.Ordering.{Ordering}
use Rattle.std.specs.declared.cmp.Ordering.TheVariants.{Less, Greater}
use Rattle.std.specs.Ordering.{ordering_reverse, eq_by_cmp}
use Rattle.std.specs.Cmp.{IsTotalOrder}
use Rattle.std.specs.FinMap.{IsAntisymmetric}
use Rattle.std.proofs.lemmas.List.{take_at, drop_at, take-append-drop}
use Rattle.std.proofs.lemmas.List.Folds.{list_any-append}
use Rattle.std.proofs.lemmas.Bool.{or_parts}
use Rattle.rbac_sets.specs.Sets.{contains, insert, from_list}
use Rattle.rbac_sets.proofs.Lists.{all_join}
use Rattle.rbac_sets.proofs.SetLaws.{contains-from_list}
use Rattle.rbac_sets.proofs.InOrder.{all_map, all_take, all_drop, from_list-insert}
use Rattle.chunked_sets.specs.Chunks.{entries_of}
use Rattle.chunked_sets.specs.private.Places.{IsHome}
use Rattle.chunked_sets.proofs.ChunkLists.{each_left, each_right, sorted_left, sorted_right, entries_at, entries_set}

-- x is put between those that are less and those that are greater
pub record Inserts {K : Type 0} (R : K → K → Ordering) (x : K) (old new : List K) : Type 0 where
  pub l : List K
  pub r : List K
  pub old_is : old ≡ l ++ r
  pub new_is : new ≡ l ++ x ∷ r
  pub below : AllByRecursion (λ y. R y x ≡ Less) l
  pub above : AllByRecursion (λ y. R y x ≡ Greater) r

module _ {K : Type 0} {R : K → K → Ordering} (o : IsTotalOrder R) where
  sorted_between : (l r : List K) (x : K) → AllByRecursion (λ y. R y x ≡ Less) l → AllByRecursion (λ y. R y x ≡ Greater) r → IsStrictlySortedBy R (l ++ r) → IsStrictlySortedBy R (l ++ x ∷ r)
  unfolding IsStrictlySortedBy
  sorted_between [] r x below above s = (all_map (λ y. R y x ≡ Greater) (λ y. R x y ≡ Less) (λ y e. o.antisymm x y ∙ ap ordering_reverse e) r above, s)
  sorted_between (y ∷ l) r x below above s =
      let P : K → Type 0 = λ z. R y z ≡ Less in
      (all_join P l (x ∷ r) (each_left P l r s.0) (below.0, each_right P l r s.0), sorted_between l r x below.1 above s.1)

  pub inserts_sorted : (x : K) (old new : List K) → Inserts R x old new → IsStrictlySortedBy R old → IsStrictlySortedBy R new
  inserts_sorted x old new i s =
      subst (IsStrictlySortedBy R) (sym i.new_is) (sorted_between i.l i.r x i.below i.above (subst (IsStrictlySortedBy R) i.old_is s))

  pub inserts_set : IsAntisymmetric R → (x : K) (old new : List K) → Inserts R x old new → from_list {R = R} new ≡ insert (from_list {R = R} old) x
  inserts_set exact x old new i =
      let parts : lists.insert (i.l ++ i.r) (length i.l) x ≡ i.l ++ x ∷ i.r = (λ k. take_at i.l i.r (length i.l) refl k ++ x ∷ drop_at i.l i.r (length i.l) refl k) in
      ap (from_list {R = R}) (i.new_is ∙ sym parts) ∙ from_list-insert o exact (i.l ++ i.r) x (length i.l) ∙ ap (λ l. insert (from_list {R = R} l) x) (sym i.old_is)

  -- what is in none of a list's parts
  pub absent_part : (l m r : List K) (x : K) → contains (from_list {R = R} (l ++ (m ++ r))) x ≡ false → contains (from_list {R = R} m) x ≡ false
  absent_part l m r x absent =
      let p : K → Bool = eq_by_cmp R x in
      let whole : (list_any p l || list_any p (m ++ r)) ≡ false = sym (list_any-append p l (m ++ r)) ∙ sym (contains-from_list o (l ++ (m ++ r)) x) ∙ absent in
      let rest : (list_any p m || list_any p r) ≡ false = sym (list_any-append p m r) ∙ (or_parts _ _ whole).1 in
      contains-from_list o m x ∙ (or_parts _ _ rest).0

pub inserts_length : {K : Type 0} {R : K → K → Ordering} (x : K) (old new : List K) → Inserts R x old new → length new ≡ length old + 1
inserts_length x old new i = omega (arith, ap length i.old_is, ap length i.new_is, length-append i.l i.r, length-append i.l (x ∷ i.r))

module _ {K Z : Type 0} (chunks : List (Vec K Z)) (at : ℕ) (v : Vec K Z) (within : at < length chunks) (there : v ≡ get_or chunks at v) where
  pub parts_of : entries_of chunks ≡ entries_of (take at chunks) ++ (v.items ++ entries_of (drop (suc at) chunks))
  parts_of = entries_at chunks at v within ∙ ap (λ (c : Vec K Z). entries_of (take at chunks) ++ (c.items ++ entries_of (drop (suc at) chunks))) (sym there)

  pub sorted_chunk : (R : K → K → Ordering) → IsStrictlySortedBy R (entries_of chunks) → IsStrictlySortedBy R v.items
  sorted_chunk R s = sorted_left R v.items (entries_of (drop (suc at) chunks)) (sorted_right R (entries_of (take at chunks)) (v.items ++ entries_of (drop (suc at) chunks))
      (subst (IsStrictlySortedBy R) parts_of s))

  pub absent_chunk : {R : K → K → Ordering} → IsTotalOrder R → (x : K) → contains (from_list {R = R} (entries_of chunks)) x ≡ false → contains (from_list {R = R} v.items) x ≡ false
  absent_chunk {R} o x absent = absent_part o (entries_of (take at chunks)) v.items (entries_of (drop (suc at) chunks)) x (subst (λ l. contains (from_list {R = R} l) x ≡ false) parts_of absent)

  pub inserts_put : (R : K → K → Ordering) (x : K) (w : Vec K Z) (gap : ℕ) → IsHome R x chunks at → gap ≤ length v.items → IsPartitionPoint (λ y. R y x ≡ Less)
      (λ y. R y x ≡ Greater) v.items gap → w.items ≡ lists.insert v.items gap x
      → Inserts R x (entries_of chunks) (entries_of (set chunks at w))
  inserts_put R x w gap home inside parts w_is =
      let front = entries_of (take at chunks) in
      let back = entries_of (drop (suc at) chunks) in
      let low = take gap v.items in
      let high = drop gap v.items in
      record {
        l = front ++ low;
        r = high ++ back;
        old_is = parts_of ∙ ap (λ l. front ++ (l ++ back)) (sym (take-append-drop gap v.items)) ∙ ap (λ l. front ++ l) (append_assoc low high back) ∙ sym (append_assoc front low (high ++ back));
        new_is = entries_set chunks at w within ∙ ap (λ l. front ++ (l ++ back)) w_is ∙ ap (λ l. front ++ l) (append_assoc low (x ∷ high) back) ∙ sym (append_assoc front low (x ∷ (high ++ back)));
        below = all_join (λ y. R y x ≡ Less) front low home.below (all_take (λ y. R y x ≡ Less) v.items gap inside parts.0);
        above = all_join (λ y. R y x ≡ Greater) high back (all_drop (λ y. R y x ≡ Greater) v.items gap parts.1) home.above;
      }
