use Rattle.std.proofs.Common.{map, ap, ◌∙◌}
use Rattle.rbac_sets.specs.Sets.{Bytes, Pair, pair_cmp}
use Rattle.rbac_sets.specs.SortedSet.{set_of}
use Rattle.role_order.specs.private.Runs.{run_of}
use Rattle.order_matrix.specs.Table.{number_in}
use Rattle.order_matrix.proofs.Mapped.{mapped_next_through, mapped_whole}
use Rattle.review_mgr.proofs.report.numbering.assigned_numbers.Goals as goal

pub loop-user-preserved : goal.loop-user-preserved
loop-user-preserved c =
    mapped_next_through (λ (user : Bytes). map (λ (pair : Pair). number_in c.args.roles.now pair.1) (run_of (set_of pair_cmp c.args.assignments.now) user)) (λ run. run.items)
    _ _ c.in-Some.user.now c.in-Some.ensures.steps c.loop-user.runs.items c.in_ok-second_numbers.field-0 c.push.new.self.items _
    (c.in_ok-second_numbers.ensures.ok ∙ ap (map (λ (pair : Pair). number_in c.args.roles.now pair.1)) c.with_first.ensures) c.loop-user.invariant c.in_ok-push.ensures.items

pub returns-clause-ok : goal.returns-clause-ok
returns-clause-ok c =
    mapped_whole (λ (user : Bytes). map (λ (pair : Pair). number_in c.args.roles.now pair.1) (run_of (set_of pair_cmp c.args.assignments.now) user))
    _ c.in-None.ensures.steps.0 (map (λ run. run.items) c.loop-user.runs.items) _ c.loop-user.invariant
