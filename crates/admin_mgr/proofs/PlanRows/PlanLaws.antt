-- A plan from its parts.
use Rattle.std.proofs.Common.{◌≡◌, ◌∙◌, List, sym, subst}
use Rattle.std.specs.Prelude.{Some, None}
use Rattle.rbac_sets.specs.declared.command.Command.{Command}
use Rattle.rbac_sets.specs.declared.row.Change.{Change}
use Rattle.role_order.specs.Planned.{Fits, changed}
use Rattle.role_order.specs.Planned.{Plan as OrderPlan}
use Rattle.admin_mgr.specs.declared.plan.Plan.{Plan}
use Rattle.admin_mgr.specs.RbacState.{RbacState}
use Rattle.admin_mgr.specs.Assignment.{no_tally}
use Rattle.admin_mgr.specs.Run.{tally}
use Rattle.admin_mgr.specs.After.{after}
use Rattle.admin_mgr.specs.Changes.{Turns}
use Rattle.admin_mgr.specs.PlanEffect.{TurnsEdges, tally_of_report, IsPlanOf}
use Rattle.admin_mgr.specs.Good.{IsGood}

module _ (S : RbacState) (command : Command) (plan : Plan) (changes : List Change)
    (told : tally S command ≡ no_tally) (lists : plan.changes.items ≡ changes) (report : tally_of_report plan.report ≡ no_tally)
    (turns : Turns S changes (after S command)) (good : IsGood (after S command)) where
  -- if the hierarchy stays the same
  pub plan_of : plan.order ≡ None → S.edges ≡ (after S command).edges → IsPlanOf S command plan
  plan_of none edges = record {
    leads = record {
      rows = subst (λ xs. Turns S xs (after S command)) (sym lists) turns;
      edges = subst (λ o. TurnsEdges S o (after S command)) (sym none) edges;
      good = good;
    };
    report = report ∙ sym told;
  }

  -- if the hierarchy changes by a plan of its own
  pub plan_with : (order : OrderPlan) → plan.order ≡ Some order → Fits S.edges order → changed S.edges order ≡ (after S command).edges → IsPlanOf S command plan
  plan_with order some fits edges = record {
    leads = record {
      rows = subst (λ xs. Turns S xs (after S command)) (sym lists) turns;
      edges = subst (λ o. TurnsEdges S o (after S command)) (sym some) (fits, edges);
      good = good;
    };
    report = report ∙ sym told;
  }
