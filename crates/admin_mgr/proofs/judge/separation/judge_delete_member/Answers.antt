use Rattle.std.proofs.Common.{sym, ◌∙◌, ap}
use Rattle.admin_mgr.specs.Refusals.{first}
use Rattle.admin_mgr.specs.Verdict.{verdict, delete_member_refusals}
use Rattle.admin_mgr.proofs.StateAfter.SetCommandLaws.{refusals_delete_member}
use Rattle.admin_mgr.proofs.judge.separation.judge_delete_member.Goals as goal

pub returns : goal.returns
unfolding verdict
returns c =
    c.refuse_member_removal.ensures
    ∙ (λ i. first (delete_member_refusals c.args.state.now.facts (record { members = c.members.ensures i; cardinalities = c.cardinalities.ensures i }) c.args.set.now c.args.role.now))
    ∙ ap first (sym (refusals_delete_member c.args.duty c.args.state.now.facts c.args.set.now c.args.role.now))
