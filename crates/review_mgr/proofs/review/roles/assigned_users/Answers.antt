use Rattle.std.proofs.Common.{◌≡◌, List, ap, subst, ◌∙◌}
use Rattle.std.specs.Prelude.{IfOk}
use Rattle.rbac_sets.specs.Sets.{Bytes, members, seconds}
use Rattle.review_mgr.specs.Review.{assigned_users}
use Rattle.review_mgr.proofs.ByRole.{seconds-turned}
use Rattle.review_mgr.proofs.review.roles.assigned_users.Goals as goal

pub returns-clause-value : goal.returns-clause-value
unfolding assigned_users
returns-clause-value c =
    subst (λ (all : List Bytes). IfOk c.seconds_of.result (λ names. names.items ≡ all))
    (ap (λ s. members (seconds s c.args.role.now)) c.assignments_by_role.ensures ∙ ap members (seconds-turned c.args.state.now.facts.assignments c.args.role.now))
    c.seconds_of.ensures.ok
