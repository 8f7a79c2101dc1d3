-- How the order changes with the edges.
use Rattle.std.proofs.Common.{◌≡◌, ◌↔◌, inl, inr, ℕ, ◌+◌, ◌*◌, List, true, false, refl, sym, ◌∙◌, ap, subst, arith}
use Rattle.std.specs.Prelude.{IsTrue}
use Rattle.std.proofs.lemmas.Bool.{false_from_ne_true}
use Rattle.rbac_sets.specs.Sets.{Bytes, Pair, Names, Pairs, empty, contains, insert, remove, union, difference, len, members, from_list}
use Rattle.rbac_sets.specs.NameOrder.{pair_total, pair_exact}
use Rattle.rbac_sets.proofs.SetLaws.{from_members}
use Rattle.role_order.specs.Order.{HasPair, Geq, IsAcyclic, IsClosure, IsGained, seniors, juniors}
use Rattle.role_order.specs.Laws.{CrossesAt}
use Rattle.role_order.specs.Planned.{Plan, changed, Fits, pairs_at}
use Rattle.role_order.proofs.Members.{AddsPair-insert, TakesPair-remove, HasPair-none, HasPair-union, HasPair-difference}
use Rattle.role_order.proofs.Leading.{Leads-from_eq, Leads-mono}
use Rattle.role_order.proofs.Closing.{crosses, IsAcyclic-added, IsAcyclic-subset}
use Rattle.role_order.proofs.Deciding.{geq_or_not, not_own_senior, not_own_junior}
use Rattle.role_order.proofs.Ranking.{len-new}

-- the set of a set's entries is the set
pub entries_are : (s : Pairs) (entries : List Pair) → entries ≡ members s → from_list entries ≡ s
entries_are s entries are = ap from_list are ∙ from_members pair_total pair_exact s

pub stored_after :
    (pairs puts takes merged taken kept : Pairs) (put_entries take_entries : List Pair) (plan : Plan)
    → put_entries ≡ members puts → take_entries ≡ members takes → puts ≡ plan.puts → takes ≡ plan.takes
    → merged ≡ union pairs (from_list put_entries) → taken ≡ difference merged (from_list take_entries) → kept ≡ taken
    → kept ≡ difference (union pairs plan.puts) plan.takes
stored_after pairs puts takes merged taken kept put_entries take_entries plan puts_are takes_are same_puts same_takes put take keep =
    let more : merged ≡ union pairs plan.puts = put ∙ ap (union pairs) (entries_are puts put_entries puts_are ∙ same_puts) in
    let gone : from_list take_entries ≡ plan.takes = entries_are takes take_entries takes_are ∙ same_takes in
    keep ∙ take ∙ (λ i. difference (more i) (gone i))

-- the stored pairs after a change
pub IsClosure-after :
    (old new pairs puts takes : Pairs)
    → IsClosure old pairs → IsGained old new puts → IsGained new old takes
    → IsClosure new (difference (union pairs puts) takes)
IsClosure-after old new pairs puts takes closed gained lost a b = (
  λ h.
      let k = (HasPair-difference (union pairs puts) takes a b).0 h in
      elim ((HasPair-union pairs puts a b).0 k.0) [
        | inl p ↦
            let at = (closed a b).0 p in
            elim (geq_or_not new a b) [
              | inl l ↦ (at.0, l)
              | inr n ↦ absurd (k.1 ((lost a b).1 (at.1, n)))
            ]
        | inr g ↦ let at = (gained a b).0 g in ((λ e. at.1 (Leads-from_eq e)), at.0)
      ],
  λ h. (HasPair-difference (union pairs puts) takes a b).1 (
    (HasPair-union pairs puts a b).1 (elim (geq_or_not old a b) [ inl l ↦ inl ((closed a b).1 (h.0, l)) | inr n ↦ inr ((gained a b).1 (h.1, n)) ]),
    λ t. ((lost a b).0 t).1 h.1,
  ),
)

-- pairs that an order gains are not stored
pub gained_apart : (old new pairs puts : Pairs) → IsClosure old pairs → IsGained old new puts → (x y : Bytes) → HasPair pairs x y → HasPair puts x y → ⊥
gained_apart old new pairs puts closed gained x y h g = ((gained x y).0 g).1 ((closed x y).0 h).1

-- the crossed pairs between which the old edges don't lead
pub IsGained-crossed :
    (old new : Pairs) (asc desc : Bytes) (above below : Names) (puts : Pairs)
    → CrossesAt old new asc desc
    → ((p : Bytes) → IsTrue (contains above p) ↔ Geq old p asc) → ((q : Bytes) → IsTrue (contains below q) ↔ Geq old desc q)
    → ((x y : Bytes) → HasPair puts x y ↔ (IsTrue (contains above x) × (IsTrue (contains below y) × (Geq old x y → ⊥))))
    → IsGained old new puts
IsGained-crossed old new asc desc above below puts order ups downs rest a b = (
  λ h. let k = (rest a b).0 h in ((order a b).1 (inr ((ups a).0 k.0, (downs b).0 k.1.0)), k.1.1),
  λ h. elim ((order a b).0 h.0) [
    | inl l ↦ absurd (h.1 l)
    | inr ls ↦ (rest a b).1 ((ups a).1 ls.0, ((downs b).1 ls.1, h.1))
  ],
)

-- fewer edges gain nothing
pub IsGained-none : (small large : Pairs) → ((a b : Bytes) → HasPair small a b → HasPair large a b) → IsGained large small empty
IsGained-none small large sub a b = (λ h. absurd (HasPair-none a b h), λ h. absurd (h.1 (Leads-mono (HasPair small) (HasPair large) sub h.0)))

-- the plan's change, if its kind and its names are known
pub changed-adds : (edges : Pairs) (plan : Plan) (asc desc : Bytes) → plan.adds ≡ true → plan.asc ≡ asc → plan.desc ≡ desc → changed edges plan ≡ insert edges (asc, desc)
changed-adds edges plan asc desc kind same_asc same_desc = rw (kind, same_asc, same_desc) refl

pub changed-takes : (edges : Pairs) (plan : Plan) (asc desc : Bytes) → plan.adds ≡ false → plan.asc ≡ asc → plan.desc ≡ desc → changed edges plan ≡ remove edges (asc, desc)
changed-takes edges plan asc desc kind same_asc same_desc = rw (kind, same_asc, same_desc) refl

-- a plan to add an edge that would make no cycle
pub Fits-added :
    (old : Pairs) (asc desc : Bytes) (above below : Names) (plan : Plan)
    → plan.adds ≡ true → plan.asc ≡ asc → plan.desc ≡ desc → plan.takes ≡ empty
    → (HasPair old asc desc → ⊥) → IsAcyclic old → (Geq old desc asc → ⊥)
    → ((p : Bytes) → IsTrue (contains above p) ↔ Geq old p asc) → ((q : Bytes) → IsTrue (contains below q) ↔ Geq old desc q)
    → ((x y : Bytes) → HasPair plan.puts x y ↔ (IsTrue (contains above x) × (IsTrue (contains below y) × (Geq old x y → ⊥))))
    → Fits old plan
Fits-added old asc desc above below plan kind same_asc same_desc none absent good no_back ups downs rest =
    let new : Pairs = insert old (asc, desc) in
    let is : changed old plan ≡ new = changed-adds old plan asc desc kind same_asc same_desc in
    let adds = AddsPair-insert old asc desc in
    let acyclic : IsAcyclic new = IsAcyclic-added old new asc desc good no_back adds in
    let gained : IsGained old new plan.puts = IsGained-crossed old new asc desc above below plan.puts (crosses old new asc desc adds) ups downs rest in
    let lost : IsGained new old plan.takes = subst (λ (takes : Pairs). IsGained new old takes) (sym none) (IsGained-none old new (λ a b h. (adds a b).1 (inl h))) in
    record {
      absent = λ _. rw (same_asc, same_desc) (false_from_ne_true (contains old (asc, desc)) absent);
      acyclic = subst IsAcyclic (sym is) acyclic;
      puts = subst (λ (edges : Pairs). IsGained old edges plan.puts) (sym is) gained;
      takes = subst (λ (edges : Pairs). IsGained edges old plan.takes) (sym is) lost;
    }

-- a plan to remove an edge
pub Fits-taken :
    (old : Pairs) (asc desc : Bytes) (plan : Plan)
    → plan.adds ≡ false → plan.asc ≡ asc → plan.desc ≡ desc → plan.puts ≡ empty
    → IsAcyclic old → IsGained (remove old (asc, desc)) old plan.takes → Fits old plan
Fits-taken old asc desc plan kind same_asc same_desc none good takes =
    let new : Pairs = remove old (asc, desc) in
    let is : changed old plan ≡ new = changed-takes old plan asc desc kind same_asc same_desc in
    let fewer : ((a b : Bytes) → HasPair new a b → HasPair old a b) = λ a b h. ((TakesPair-remove old asc desc a b).0 h).0 in
    let gained : IsGained old new plan.puts = subst (λ (puts : Pairs). IsGained old new puts) (sym none) (IsGained-none new old fewer) in
    record {
      absent = λ t. let both : true ≡ false = sym t ∙ kind in cc;
      acyclic = subst IsAcyclic (sym is) (IsAcyclic-subset new old fewer good);
      puts = subst (λ (edges : Pairs). IsGained old edges plan.puts) (sym is) gained;
      takes = subst (λ (edges : Pairs). IsGained edges old plan.takes) (sym is) takes;
    }

-- how many pairs of a role of each set there are
pub judged_are : (edges : Pairs) (asc desc : Bytes) (above below : Names) → above ≡ insert (seniors edges asc) asc → below ≡ insert (juniors edges desc) desc
    → len above * len below ≡ pairs_at edges asc desc
judged_are edges asc desc above below ups downs =
    let up : len above ≡ 1 + len (seniors edges asc) = ap len ups ∙ len-new (seniors edges asc) asc (not_own_senior edges asc) ∙ turned (len (seniors edges asc)) in
    let down : len below ≡ 1 + len (juniors edges desc) = ap len downs ∙ len-new (juniors edges desc) desc (not_own_junior edges desc) ∙ turned (len (juniors edges desc)) in
    λ i. up i * down i
  where
    turned : (n : ℕ) → n + 1 ≡ 1 + n
    turned n = omega arith

-- an order remains an order after a change that fits it
pub good_after :
    (old pairs : Pairs) (plan : Plan) (new pairs' : Pairs)
    → Fits old plan → IsClosure old pairs → new ≡ changed old plan → pairs' ≡ difference (union pairs plan.puts) plan.takes
    → IsAcyclic new × IsClosure new pairs'
good_after old pairs plan new pairs' fits closed new_is pairs_are =
    let after : IsClosure (changed old plan) (difference (union pairs plan.puts) plan.takes) = IsClosure-after old (changed old plan) pairs plan.puts plan.takes closed fits.puts fits.takes in (
      subst IsAcyclic (sym new_is) fits.acyclic,
      subst (λ (edges : Pairs). IsClosure edges pairs') (sym new_is) (subst (λ (s : Pairs). IsClosure (changed old plan) s) (sym pairs_are) after),
    )
