use Rattle.std.proofs.Common.{◌∙◌, ap}
use Rattle.std.specs.List.{list_all}
use Rattle.rbac_sets.specs.Sets.{Pair}
use Rattle.admin_mgr.specs.private.HolderRoles.{run_of}
use Rattle.admin_mgr.specs.private.SessionContinuation.{is_held_without_role}
use Rattle.admin_mgr.proofs.planning.ending.goes_on_without_role.Goals as goal

pub returns : goal.returns
returns c =
    c.are_held_without_role.ensures
    ∙ (λ i. list_all (λ (pair : Pair). is_held_without_role (c.order.ensures i) ((c.with_first-held.ensures ∙ ap (λ s. run_of s c.args.user.now) c.assignments.ensures) i) c.args.gone.now pair.1) ((c.with_first-active.ensures ∙ ap (λ s. run_of s c.args.session.now) c.active.ensures) i))
