-- The test of the order, and the definitions of seniors and juniors.
use Rattle.std.proofs.Common.{◌≡◌, ◌≢◌, ◌↔◌, ◌⊎◌, inl, inr, Bool, true, false, not, ◌&&◌, ◌||◌, List, [], ◌∷◌, refl, sym, ◌∙◌, ap, subst}
use Rattle.std.specs.Prelude.{IsTrue}
use Rattle.std.specs.Bool.{Decides}
use Rattle.std.specs.Cmp.{both_ways}
use Rattle.std.specs.List.{list_any}
use Rattle.std.proofs.lemmas.Bool.{or_cases, or_left, or_right, and_parts, and_from, true≢false, false_from_ne_true}
use Rattle.rbac_sets.specs.Sets.{Bytes, Pair, Names, Pairs, any, contains, insert, members, from_list, image, retain, same_name}
use Rattle.rbac_sets.specs.NameOrder.{name_total, name_exact, pair_total, pair_exact}
use Rattle.rbac_sets.proofs.Members.{members-retain}
use Rattle.rbac_sets.proofs.SetLaws.{any-Decides, tie_Decides, from_members, image-Decides, contains-retain, contains-insert-Decides, same_members}
use Rattle.role_order.specs.Order.{HasPair, Geq, IsClosure, here, geq_along, geq, seniors, juniors}
use Rattle.role_order.specs.Laws.{CrossesAt, TestDecides}
use Rattle.role_order.specs.private.Runs.{run_of}
use Rattle.role_order.proofs.Members.{AddsPair-insert, same_or_other}
use Rattle.role_order.proofs.Leading.{Leads-from_eq, first_step, last_step}
use Rattle.role_order.proofs.Closing.{Geq-none, crosses}

along-Decides : (es : List Pair) (a b : Bytes) → Decides (geq_along es a b) (Geq (from_list es) a b)
unfolding from_list
along-Decides [] a b = (λ h. Leads-from_eq ((tie_Decides name_total name_exact a b).0 h), λ l. (tie_Decides name_total name_exact a b).1 (Geq-none a b l))
along-Decides (e ∷ es) a b =
    let all : CrossesAt (from_list es) (insert (from_list es) (e.0, e.1)) e.0 e.1 = crosses (from_list es) (insert (from_list es) (e.0, e.1)) e.0 e.1 (AddsPair-insert (from_list es) e.0 e.1) in
    let without = along-Decides es a b in
    let up = along-Decides es a e.0 in
    let down = along-Decides es e.1 b in (
      λ h. (all a b).1 (elim (or_cases (geq_along es a b) (geq_along es a e.0 && geq_along es e.1 b) h) [
        | inl t ↦ inl (without.0 t)
        | inr t ↦ let parts = and_parts (geq_along es a e.0) (geq_along es e.1 b) t in inr (up.0 parts.0, down.0 parts.1)
      ]),
      λ l. elim ((all a b).0 l) [
        | inl k ↦ or_left _ _ (without.1 k)
        | inr k ↦ or_right _ _ (and_from _ _ (up.1 k.0) (down.1 k.1))
      ],
    )

-- the test of a >= b is right
pub geq-Decides : TestDecides
unfolding geq
geq-Decides edges a b = subst (λ (s : Pairs). Decides (geq_along (members edges) a b) (Geq s a b)) (from_members pair_total pair_exact edges) (along-Decides (members edges) a b)

-- so there are only two cases
pub geq_or_not : (edges : Pairs) (a b : Bytes) → Geq edges a b ⊎ (Geq edges a b → ⊥)
geq_or_not edges a b = told (geq edges a b) refl where
  told : (r : Bool) → r ≡ geq edges a b → Geq edges a b ⊎ (Geq edges a b → ⊥)
  told true e = inl ((geq-Decides edges a b).0 (sym e))
  told false e = inr (λ l. true≢false (sym ((geq-Decides edges a b).1 l) ∙ sym e))

-- ---- seniors and juniors

apart : (a b : Bytes) → (a ≢ b) → not (same_name a b) ≡ true
apart a b n = ap not (false_from_ne_true (same_name a b) (λ e. n ((tie_Decides name_total name_exact a b).0 e)))

is_apart : (a b : Bytes) → not (same_name a b) ≡ true → a ≢ b
is_apart a b h e = true≢false (sym h ∙ ap not ((tie_Decides name_total name_exact a b).1 e))

pub seniors-are : (edges : Pairs) (r p : Bytes) → IsTrue (contains (seniors edges r) p) ↔ ((p ≢ r) × Geq edges p r)
unfolding seniors
seniors-are edges r p =
    let starts = image-Decides pair_total pair_exact name_total name_exact (λ (edge : Pair). edge.0) edges p in
    let kept = contains-retain name_total name_exact (image (λ (edge : Pair). edge.0) edges) (λ name. geq edges name r && not (same_name name r)) p in (
      λ h.
          let parts = and_parts (geq edges p r) (not (same_name p r)) (and_parts _ _ (sym kept ∙ h)).1 in
          (is_apart p r parts.1, (geq-Decides edges p r).0 parts.0),
      λ h. kept ∙ and_from _ _ (starts.1 (elim (first_step (HasPair edges) h.1) [
        | inl same ↦ absurd (h.0 same)
        | inr k ↦ ((p, k.0), k.1, refl)
      ])) (and_from _ _ ((geq-Decides edges p r).1 h.1) (apart p r h.0)),
    )

pub juniors-are : (edges : Pairs) (r q : Bytes) → IsTrue (contains (juniors edges r) q) ↔ ((r ≢ q) × Geq edges r q)
unfolding juniors
juniors-are edges r q =
    let ends = image-Decides pair_total pair_exact name_total name_exact (λ (edge : Pair). edge.1) edges q in
    let kept = contains-retain name_total name_exact (image (λ (edge : Pair). edge.1) edges) (λ name. geq edges r name && not (same_name r name)) q in (
      λ h.
          let parts = and_parts (geq edges r q) (not (same_name r q)) (and_parts _ _ (sym kept ∙ h)).1 in
          (is_apart r q parts.1, (geq-Decides edges r q).0 parts.0),
      λ h. kept ∙ and_from _ _ (ends.1 (elim (last_step (HasPair edges) h.1) [
        | inl same ↦ absurd (h.0 same)
        | inr k ↦ ((k.0, q), k.1, refl)
      ])) (and_from _ _ ((geq-Decides edges r q).1 h.1) (apart r q h.0)),
    )

pub seniors-same : (edges : Pairs) (r : Bytes) (names : Names) → ((p : Bytes) → IsTrue (contains names p) ↔ ((p ≢ r) × Geq edges p r)) → names ≡ seniors edges r
seniors-same edges r names are = same_members name_total name_exact names (seniors edges r) (λ p. (λ h. (seniors-are edges r p).1 ((are p).0 h), λ h. (are p).1 ((seniors-are edges r p).0 h)))

pub juniors-same : (edges : Pairs) (r : Bytes) (names : Names) → ((q : Bytes) → IsTrue (contains names q) ↔ ((r ≢ q) × Geq edges r q)) → names ≡ juniors edges r
juniors-same edges r names are = same_members name_total name_exact names (juniors edges r) (λ q. (λ h. (juniors-are edges r q).1 ((are q).0 h), λ h. (are q).1 ((juniors-are edges r q).0 h)))

-- ---- with the role itself

pub not_own_senior : (edges : Pairs) (r : Bytes) → contains (seniors edges r) r ≡ false
not_own_senior edges r = false_from_ne_true (contains (seniors edges r) r) (λ h. ((seniors-are edges r r).0 h).0 refl)

pub not_own_junior : (edges : Pairs) (r : Bytes) → contains (juniors edges r) r ≡ false
not_own_junior edges r = false_from_ne_true (contains (juniors edges r) r) (λ h. ((juniors-are edges r r).0 h).0 refl)

pub at_or_above-are : (edges : Pairs) (r : Bytes) (names : Names) → names ≡ insert (seniors edges r) r → (p : Bytes) → IsTrue (contains names p) ↔ Geq edges p r
at_or_above-are edges r names are p =
    let put = contains-insert-Decides name_total name_exact (seniors edges r) r p in (
      λ h. elim (put.0 (subst (λ (s : Names). IsTrue (contains s p)) are h)) [ inl e ↦ Leads-from_eq e | inr k ↦ ((seniors-are edges r p).0 k).1 ],
      λ l. subst (λ (s : Names). IsTrue (contains s p)) (sym are) (put.1 (elim (same_or_other p r) [ inl e ↦ inl e | inr n ↦ inr ((seniors-are edges r p).1 (n, l)) ])),
    )

pub at_or_below-are : (edges : Pairs) (r : Bytes) (names : Names) → names ≡ insert (juniors edges r) r → (q : Bytes) → IsTrue (contains names q) ↔ Geq edges r q
at_or_below-are edges r names are q =
    let put = contains-insert-Decides name_total name_exact (juniors edges r) r q in (
      λ h. elim (put.0 (subst (λ (s : Names). IsTrue (contains s q)) are h)) [ inl e ↦ Leads-from_eq (sym e) | inr k ↦ ((juniors-are edges r q).0 k).1 ],
      λ l. subst (λ (s : Names). IsTrue (contains s q)) (sym are) (put.1 (elim (same_or_other r q) [ inl e ↦ inl (sym e) | inr n ↦ inr ((juniors-are edges r q).1 (n, l)) ])),
    )

-- the role, and the second names of its run in the closure
pub below-are : (edges pairs : Pairs) → IsClosure edges pairs → (role q : Bytes) → (same_name q role || list_any (λ (pair : Pair). same_name q pair.1) (run_of pairs role)) ≡ geq edges role q
unfolding any
below-are edges pairs closed role q =
    let begins : Pair → Bool = λ pair. same_name pair.0 role in
    let ends : Pair → Bool = λ pair. same_name q pair.1 in
    let run = any-Decides pair_total pair_exact ends (retain pairs begins) in
    let same = ap (list_any ends) (members-retain pair_total pair_exact pairs begins) in
    both_ways _ _
    (λ h. (geq-Decides edges role q).1 (elim (or_cases (same_name q role) _ h) [
      | inl one ↦ subst (λ z. Geq edges role z) (sym ((tie_Decides name_total name_exact q role).0 one)) here
      | inr other ↦
          let found = run.0 (same ∙ other) in
          let parts = and_parts _ _ (sym (contains-retain pair_total pair_exact pairs begins found.0) ∙ found.1) in
          let first = (tie_Decides name_total name_exact found.0.0 role).0 parts.1 in
          let second = (tie_Decides name_total name_exact q found.0.1).0 found.2 in
          ((closed role q).0 (subst (λ (p : Pair). IsTrue (contains pairs p)) (λ i. (first i, sym second i)) parts.0)).1
    ]))
    (λ h. elim (same_or_other q role) [
      | inl one ↦ or_left _ _ ((tie_Decides name_total name_exact q role).1 one)
      | inr other ↦ or_right _ _ (sym same ∙ run.1 (
        (role, q),
        contains-retain pair_total pair_exact pairs begins (role, q)
            ∙ and_from _ _ ((closed role q).1 (λ e. other (sym e), (geq-Decides edges role q).0 h)) ((tie_Decides name_total name_exact role role).1 refl),
        (tie_Decides name_total name_exact q q).1 refl,
      ))
    ])
