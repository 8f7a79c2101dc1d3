use Rattle.std.proofs.Common.{sym, ◌∙◌}
use Rattle.rbac_sets.specs.declared.command.Command.TheVariants.{AddInheritance}
use Rattle.admin_mgr.specs.Refusals.{violates_static, violates_dynamic}
use Rattle.admin_mgr.specs.After.{after}
use Rattle.admin_mgr.specs.Verdict.{verdict, refusals, add_inheritance_refusals}
use Rattle.admin_mgr.proofs.Verdicts.VerdictLaws.{stopped_before}
use Rattle.admin_mgr.proofs.judge.hierarchy.judge_add_inheritance.Goals as goal

pub returns-in-Some : goal.returns-in-Some
unfolding verdict refusals
returns-in-Some c = stopped_before (add_inheritance_refusals c.args.state.now.facts c.args.asc.now c.args.desc.now) (violates_static (after c.args.state.now.facts (AddInheritance c.args.asc.now c.args.desc.now))) (violates_dynamic (after c.args.state.now.facts (AddInheritance c.args.asc.now c.args.desc.now))) c.in-Some.refusal (sym c.refuse_inheritance.ensures ∙ c.in-Some.is)
