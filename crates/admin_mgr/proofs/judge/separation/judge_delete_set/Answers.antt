use Rattle.std.proofs.Common.{◌≡◌, Bool, [], ◌∷◌, sym, ◌∙◌, ap}
use Rattle.rbac_sets.specs.Sets.{Cardinality, any, same_name}
use Rattle.rbac_sets.specs.declared.refusal.Refusal.TheVariants.{NoSet}
use Rattle.admin_mgr.specs.RbacState.{has_set}
use Rattle.admin_mgr.specs.Refusals.{first, refuse_unless}
use Rattle.admin_mgr.specs.private.SeparationOfDuty.{sets_of}
use Rattle.admin_mgr.specs.Verdict.{verdict}
use Rattle.admin_mgr.proofs.StateAfter.SetCommandLaws.{refusals_delete_set}
use Rattle.admin_mgr.proofs.judge.separation.judge_delete_set.Goals as goal

pub returns-then-not-has_set : goal.returns-then-not-has_set
unfolding verdict any
returns-then-not-has_set c =
    let there : c.has_set.result ≡ has_set (sets_of c.args.duty c.args.state.now.facts) c.args.set.now = c.has_set.ensures ∙ (λ i. any (λ (entry : Cardinality). same_name entry.0 c.args.set.now) (c.cardinalities.ensures i)) in
    ap (λ (is : Bool). first (refuse_unless is NoSet ∷ [])) (sym c.if-not-has_set.true ∙ there) ∙ ap first (sym (refusals_delete_set c.args.duty c.args.state.now.facts c.args.set.now))

pub returns : goal.returns
unfolding verdict any
returns c =
    let there : c.has_set.result ≡ has_set (sets_of c.args.duty c.args.state.now.facts) c.args.set.now = c.has_set.ensures ∙ (λ i. any (λ (entry : Cardinality). same_name entry.0 c.args.set.now) (c.cardinalities.ensures i)) in
    ap (λ (is : Bool). first (refuse_unless is NoSet ∷ [])) (sym c.if-not-has_set.false ∙ there) ∙ ap first (sym (refusals_delete_set c.args.duty c.args.state.now.facts c.args.set.now))
