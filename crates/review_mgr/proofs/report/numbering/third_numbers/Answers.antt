use Rattle.rbac_sets.specs.Sets.{Triple}
use Rattle.order_matrix.specs.Table.{number_in}
use Rattle.order_matrix.proofs.Mapped.{mapped_next, mapped_whole}
use Rattle.review_mgr.proofs.report.numbering.third_numbers.Goals as goal

pub loop-grant-preserved : goal.loop-grant-preserved
loop-grant-preserved c =
    mapped_next (λ (grant : Triple). number_in c.args.roles.now grant.2) _ _ c.in-Some.grant.now c.in-Some.ensures.steps
    c.loop-grant.numbers.items c.number.result c.push.new.self.items _ c.number.ensures.number c.loop-grant.invariant c.in_ok-push.ensures.items

pub returns-clause-ok : goal.returns-clause-ok
returns-clause-ok c = mapped_whole (λ (grant : Triple). number_in c.args.roles.now grant.2) _ c.in-None.ensures.steps.0 c.loop-grant.numbers.items _ c.loop-grant.invariant
