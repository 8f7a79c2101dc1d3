use Rattle.std.proofs.Common.{◌≡◌, ◌++◌, ◌∷◌, [], Bool, subst, ◌∙◌}
use Rattle.std.specs.Prelude.{IfOk}
use Rattle.rbac_sets.specs.Sets.{Pair, name_cmp, pair_cmp, members, retain, image}
use Rattle.rbac_sets.specs.SortedSet.{set_of}
use Rattle.review_mgr.proofs.Below.{above-listed}
use Rattle.review_mgr.proofs.gather.users_above.Goals as goal

pub returns-clause-ok : goal.returns-clause-ok
returns-clause-ok c =
    subst (λ (test : Pair → Bool). IfOk c.users_of.result (λ names. names.items ≡ members (image {Q = name_cmp} (λ (pair : Pair). pair.1) (retain (set_of pair_cmp c.args.by_role.now) test))))
    (λ i pair. above-listed c.args.order.now.edges (set_of name_cmp c.in_ok-seniors.field-0) c.args.role.now c.deref.result.now
    (c.deref.ensures.value ∙ c.in_ok-push.ensures.items ∙ (λ j. c.into_entries-roles.ensures.entries j ++ c.in_ok-copy.ensures.ok j ∷ [])) c.in_ok-seniors.ensures.members pair.0 i)
    c.users_of.ensures.ok
