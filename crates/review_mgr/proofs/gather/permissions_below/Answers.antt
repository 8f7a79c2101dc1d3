use Rattle.std.proofs.Common.{◌≡◌, Bool, ap, subst, ◌∙◌}
use Rattle.std.specs.Prelude.{IfOk}
use Rattle.rbac_sets.specs.Sets.{Triple, name_cmp, pair_cmp, triple_cmp, contains, from_list, members, retain, image}
use Rattle.rbac_sets.specs.SortedSet.{set_of}
use Rattle.review_mgr.proofs.gather.permissions_below.Goals as goal

pub returns-clause-ok : goal.returns-clause-ok
returns-clause-ok c =
    subst (λ (test : Triple → Bool). IfOk c.permissions_of.result (λ pairs. pairs.items ≡ members (image {Q = pair_cmp} (λ (grant : Triple). (grant.1, grant.2)) (retain (set_of triple_cmp c.args.by_role.now) test))))
    (λ i grant. (ap (λ ys. contains (from_list {R = name_cmp} ys) grant.0) c.deref.ensures.value ∙ c.in_ok-roles.ensures.below grant.0) i)
    c.permissions_of.ensures.ok
