use Rattle.std.proofs.Common.{ap, ◌∙◌}
use Rattle.std.specs.Prelude.{count_by, nat_lt}
use Rattle.std.specs.List.{list_all}
use Rattle.rbac_sets.specs.Sets.{Cardinality, Pair, members}
use Rattle.role_order.specs.Order.{geq}
use Rattle.admin_mgr.specs.private.HolderRoles.{run_of}
use Rattle.admin_mgr.proofs.Verdicts.UserAccessLaws.{alone_by_runs}
use Rattle.admin_mgr.proofs.separation_of_duty.by_name.stands_alone.Goals as goal

pub returns : goal.returns
returns c =
    c.are_few.ensures
    ∙ (λ i. list_all (λ (entry : Cardinality). nat_lt (count_by (λ (member : Pair). geq (c.order.ensures i) c.args.role.now member.1) (run_of (c.dsd_members.ensures i) entry.0)) entry.1)
    ((c.as_slice.ensures ∙ ap members c.dsd_cardinalities.ensures) i))
    ∙ alone_by_runs c.args.state.now.facts c.args.role.now
