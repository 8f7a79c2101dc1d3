use Rattle.std.proofs.Common.{sym, ◌∙◌, ap}
use Rattle.std.specs.List.{list_all}
use Rattle.rbac_sets.specs.Sets.{Pair}
use Rattle.admin_mgr.specs.private.HolderRoles.{run_of, is_reached}
use Rattle.admin_mgr.proofs.StoredRows.TestLaws.{authorized_active}
use Rattle.admin_mgr.proofs.checking.is_authorized_in.Goals as goal

pub returns : goal.returns
returns c =
    c.are_reached.ensures
    ∙ (λ i. list_all (λ (pair : Pair). is_reached (c.order.ensures i) ((c.with_first-held.ensures ∙ ap (λ s. run_of s c.args.user.now) c.assignments.ensures) i) pair.1) ((c.with_first-active.ensures ∙ ap (λ s. run_of s c.args.session.now) c.active.ensures) i))
    ∙ sym (authorized_active c.args.relations.now.facts c.args.session.now c.args.user.now)
