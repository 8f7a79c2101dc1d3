use Rattle.explanations.specs.SessionReasons.{session_reason_content}
use Rattle.explanations.proofs.SessionReasonLaws.{one_session_reason, session_reason_decides}
use Rattle.explanations.proofs.session_access.explain_session_access.Goals as goal

pub returns-clause-only : goal.returns-clause-only
returns-clause-only c other is =
    one_session_reason c.args.state.now.facts c.args.session.now c.args.operation.now c.args.object.now (session_reason_content c.session_reason.result) other c.session_reason.ensures is

pub returns-clause-access : goal.returns-clause-access
returns-clause-access c =
    session_reason_decides c.args.state.now.facts c.args.session.now c.args.operation.now c.args.object.now c.recall_good.ensures (session_reason_content c.session_reason.result) c.session_reason.ensures
