use Rattle.std.proofs.Common.{[], ◌∷◌, ◌++◌, ◌∙◌}
use Rattle.rbac_sets.specs.Sets.{Bytes}
use Rattle.rbac_sets.specs.declared.row.Row.TheVariants.{PairRow}
use Rattle.rbac_sets.specs.declared.row.TheConstants.Row.{SESSION, ACTIVATED_ROLE}
use Rattle.rbac_sets.specs.declared.row.Change.TheVariants.{Put}
use Rattle.admin_mgr.specs.private.PlanChanges.{put_all}
use Rattle.admin_mgr.proofs.PlanRows.NewSessionPlans.{done_create_session}
use Rattle.admin_mgr.proofs.planning.sessions.plan_create_session.Goals as goal

pub returns-clause-planned : goal.returns-clause-planned
returns-clause-planned c =
    let put = c.in_ok-put.ensures.ok ∙ (λ i. c.new-changes.ensures.items i ++ Put ((c.session.ensures ∙ (λ j. PairRow SESSION (c.in_ok-copy.ensures.ok j) (c.in_ok-copy-2.ensures.ok j))) i) ∷ []) in
    done_create_session c.args.state.now.facts c.recall_good.ensures c.args.user.now c.args.roles.now c.args.session.now c.requires.accepted c.plain.result (record {
      changes = c.plain.ensures.changes ∙ c.in_ok-put_paired.ensures.ok ∙ (λ i. put i ++ put_all (λ (role : Bytes). PairRow ACTIVATED_ROLE c.args.session.now role) (c.as_slice.ensures i));
      report = c.plain.ensures.report;
      order = c.plain.ensures.order;
    })
