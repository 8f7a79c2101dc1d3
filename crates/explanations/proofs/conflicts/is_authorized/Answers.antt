use Rattle.std.proofs.Common.{sym, ◌∙◌, ap}
use Rattle.admin_mgr.specs.private.HolderRoles.{run_of, is_reached}
use Rattle.admin_mgr.proofs.Verdicts.AuthorizationLaws.{authorized_reached}
use Rattle.explanations.proofs.conflicts.is_authorized.Goals as goal

pub returns : goal.returns
returns c =
    c.is_reached.ensures
    ∙ (λ i. is_reached (c.order.ensures i) ((c.with_first-held.ensures ∙ ap (λ s. run_of s c.args.user.now) c.assignments.ensures) i) c.args.role.now)
    ∙ sym (authorized_reached c.args.state.now.facts c.args.user.now c.args.role.now)
