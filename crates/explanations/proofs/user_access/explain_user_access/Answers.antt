use Rattle.explanations.specs.UserReasons.{reason_content}
use Rattle.explanations.proofs.ReasonLaws.{one_reason, reason_decides}
use Rattle.explanations.proofs.user_access.explain_user_access.Goals as goal

pub returns-clause-only : goal.returns-clause-only
returns-clause-only c other is =
    one_reason c.args.state.now.facts c.args.user.now c.args.operation.now c.args.object.now (reason_content c.user_reason.result) other c.user_reason.ensures is

pub returns-clause-access : goal.returns-clause-access
returns-clause-access c =
    reason_decides c.args.state.now.facts c.args.user.now c.args.operation.now c.args.object.now c.recall_good.ensures (reason_content c.user_reason.result) c.user_reason.ensures
