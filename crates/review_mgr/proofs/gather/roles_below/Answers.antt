use Rattle.std.proofs.Common.{◌||◌, ◌∙◌, ap}
use Rattle.std.proofs.Math.Bool.{or-false}
use Rattle.role_order.specs.Order.{geq}
use Rattle.review_mgr.proofs.Below.{reaches_start}
use Rattle.review_mgr.proofs.gather.roles_below.Goals as goal

-- The list is empty at first, so that it has only the role and its juniors.
pub put_below-requires : goal.put_below-requires
put_below-requires c = (reaches_start c.args.order.now.edges _ cc).sorted

pub returns-clause-below : goal.returns-clause-below
returns-clause-below c q =
    c.in_ok-put_below.ensures.put q
    ∙ ap (λ b. geq c.args.order.now.edges c.args.role.now q || b) ((reaches_start c.args.order.now.edges c.new-names.result.items cc).all q)
    ∙ or-false _
