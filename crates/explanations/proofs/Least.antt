-- The first members in byte order, by lists that are in this order.
use Rattle.std.proofs.Common.{◌≡◌, Bool, List, [], ◌∷◌, map, sym, ◌∙◌, ap}
use Rattle.std.specs.Prelude.{find, slice_get}
use Rattle.std.specs.List.{filter, AllByRecursion}
use Rattle.std.specs.List.Sorted.{IsStrictlySortedBy}
use Rattle.std.specs.declared.cmp.Ordering.{Ordering}
use Rattle.std.specs.declared.cmp.Ordering.TheVariants.{Less}
use Rattle.std.specs.Cmp.{IsTotalOrder}
use Rattle.std.specs.FinMap.{IsAntisymmetric}
use Rattle.std.specs.FinSet.{FinSet}
use Rattle.rbac_sets.specs.NameOrder.{name_total, triple_total, triple_exact}
use Rattle.rbac_sets.specs.Sets.{Bytes, Triple, Triples, name_cmp, from_list, image, members, retain}
use Rattle.rbac_sets.proofs.InOrder.{members-sorted}
use Rattle.rbac_sets.proofs.Lists.{find_filter}
use Rattle.rbac_sets.proofs.Members.{members-retain}
use Rattle.review_mgr.proofs.RunsAndGrants.{grants-rise}
use Rattle.review_mgr.specs.private.Intersection.{third_cmp}
use Rattle.review_mgr.specs.Review.{is_grant_of}
use Rattle.explanations.specs.UserReasons.{least}

-- the first member that passes a test is the first in byte order that does
pub least-retain : {K : Type 0} {R : K → K → Ordering} → IsTotalOrder R → IsAntisymmetric R → (s : FinSet R) (t : K → Bool) → least (retain s t) ≡ find t (members s)
least-retain total exact s t = ap (λ xs. slice_get xs 0) (members-retain total exact s t) ∙ sym (find_filter t (members s))

-- ---- the roles of the grants of a permission

thirds_below : (x : Triple) (xs : List Triple) → AllByRecursion (λ y. third_cmp x y ≡ Less) xs → AllByRecursion (λ y. name_cmp x.2 y ≡ Less) (map (λ (y : Triple). y.2) xs)
thirds_below x [] below = tt
thirds_below x (y ∷ xs) below = (below.0, thirds_below x xs below.1)

thirds_rise : (xs : List Triple) → IsStrictlySortedBy third_cmp xs → IsStrictlySortedBy name_cmp (map (λ (y : Triple). y.2) xs)
unfolding IsStrictlySortedBy
thirds_rise [] rise = tt
thirds_rise (x ∷ xs) rise = (thirds_below x xs rise.0, thirds_rise xs rise.1)

-- they are in the order of the grants
pub members-granted : (grants : Triples) (object operation : Bytes) →
    members (image {Q = name_cmp} (λ (grant : Triple). grant.2) (retain grants (is_grant_of object operation))) ≡ map (λ (grant : Triple). grant.2) (filter (is_grant_of object operation) (members grants))
unfolding image
members-granted grants object operation =
    ap (λ (xs : List Triple). members (from_list {R = name_cmp} (map (λ (grant : Triple). grant.2) xs))) (members-retain triple_total triple_exact grants (is_grant_of object operation))
    ∙ members-sorted name_total (map (λ (grant : Triple). grant.2) (filter (is_grant_of object operation) (members grants))) (thirds_rise _ (grants-rise grants object operation))
