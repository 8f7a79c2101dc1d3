use Rattle.std.proofs.Common.{◌≡◌, true, false, List, [], ◌∷◌, inr, rules, subst}
use Rattle.std.specs.Prelude.{IfOk}
use Rattle.rbac_sets.specs.Sets.{Bytes, Triple, name_cmp, contains, members, retain, image}
use Rattle.rbac_sets.specs.declared.refusal.Refusal.TheVariants.{NoObject, NoPermission}
use Rattle.admin_mgr.specs.Refusals.{refuse_unless, first}
use Rattle.review_mgr.specs.Questions.{refused, refusals}
use Rattle.review_mgr.specs.Review.{is_grant_of, permission_roles}
use Rattle.review_mgr.proofs.review.permissions.permission_roles.Goals as goal

pub returns-then-not-contains-2-clause-refused : goal.returns-then-not-contains-2-clause-refused
unfolding refused refusals
returns-then-not-contains-2-clause-refused c =
    let there : contains c.args.state.now.facts.objects c.args.object.now ≡ true = search rules in
    let absent : contains c.args.state.now.facts.permissions (c.args.object.now, c.args.operation.now) ≡ false = search rules in
    inr (λ i. first (refuse_unless (there i) NoObject ∷ refuse_unless (absent i) NoPermission ∷ []))

pub returns-clause-value : goal.returns-clause-value
unfolding permission_roles
returns-clause-value c =
    subst (λ (all : List Bytes). IfOk c.roles_granted.result (λ names. names.items ≡ all))
    (λ i. members (image {Q = name_cmp} (λ (grant : Triple). grant.2) (retain (c.grants.ensures i) (is_grant_of c.args.object.now c.args.operation.now))))
    c.roles_granted.ensures.ok
