use Rattle.std.proofs.Common.{not, ◌∙◌, ap}
use Rattle.std.specs.Prelude.{find, count_by, nat_lt}
use Rattle.rbac_sets.specs.Sets.{Cardinality, Pair, members}
use Rattle.role_order.specs.Order.{geq}
use Rattle.admin_mgr.specs.private.HolderRoles.{run_of}
use Rattle.explanations.proofs.ReasonLaws.{violated_first}
use Rattle.explanations.proofs.user_access.first_violated.Goals as goal

pub returns : goal.returns
returns c =
    c.first_full.ensures
    ∙ (λ i. find (λ (entry : Cardinality). not (nat_lt (count_by (λ (member : Pair). geq (c.order.ensures i) c.args.role.now member.1) (run_of (c.dsd_members.ensures i) entry.0)) entry.1))
    ((c.as_slice-sets.ensures ∙ ap members c.dsd_cardinalities.ensures) i))
    ∙ violated_first c.args.state.now.facts c.args.role.now
