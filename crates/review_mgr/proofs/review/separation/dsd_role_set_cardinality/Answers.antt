use Rattle.std.proofs.Common.{sym, ap, ◌∙◌}
use Rattle.std.specs.Prelude.{is_some, ◌∷◌, []}
use Rattle.rbac_sets.specs.declared.refusal.Refusal.TheVariants.{NoSet}
use Rattle.admin_mgr.specs.Refusals.{refuse_unless, first}
use Rattle.admin_mgr.proofs.Verdicts.AuthorizationLaws.{is_some_cardinality}
use Rattle.review_mgr.specs.Questions.{refused, refusals}
use Rattle.review_mgr.proofs.review.separation.dsd_role_set_cardinality.Goals as goal

pub returns-in-Some-clause-answered : goal.returns-in-Some-clause-answered
unfolding refused refusals
returns-in-Some-clause-answered c =
    ap (λ there. first (refuse_unless there NoSet ∷ [])) (sym (is_some_cardinality c.args.state.now.facts.dsd c.args.set.now) ∙ ap is_some (sym c.dsd_n.ensures ∙ c.in-Some.is))

pub returns-in-None-clause-refused : goal.returns-in-None-clause-refused
unfolding refused refusals
returns-in-None-clause-refused c =
    ap (λ there. first (refuse_unless there NoSet ∷ [])) (sym (is_some_cardinality c.args.state.now.facts.dsd c.args.set.now) ∙ ap is_some (sym c.dsd_n.ensures ∙ c.in-None.is))
