use Rattle.std.proofs.Common.{ap, ◌∙◌}
use Rattle.admin_mgr.specs.private.HolderRoles.{is_reached, run_of}
use Rattle.review_mgr.proofs.Below.{session_roles-listed, if_both}
use Rattle.review_mgr.proofs.review.sessions.session_roles.Goals as goal

pub returns-clause-value : goal.returns-clause-value
returns-clause-value c =
    let held = c.activated_in.ensures ∙ ap (λ name. run_of c.args.state.now.facts.active name) c.as_borrowed-name.ensures in
    if_both _ _ _ c.roles_reached.result
    (λ names sorted all. session_roles-listed c.args.state.now.facts c.recall_good.ensures c.args.session.now names.items sorted (λ q. all q ∙ (λ i. is_reached (c.order.ensures i) (held i) q)))
    c.roles_reached.ensures.sorted c.roles_reached.ensures.reached
