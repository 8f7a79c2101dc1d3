-- The plan of a new session: its row is inserted, and those of the roles that are activated in it.
use Rattle.std.proofs.Common.{◌≡◌, ◌∷◌, refl, ◌∙◌, ap, subst}
use Rattle.std.specs.Prelude.{None}
use Rattle.rbac_sets.specs.Sets.{Bytes, name_cmp, insert, members}
use Rattle.rbac_sets.specs.SortedSet.{Stored, set_of}
use Rattle.rbac_sets.specs.NameOrder.{pair_total, pair_exact}
use Rattle.rbac_sets.specs.declared.command.Command.TheVariants.{CreateSession}
use Rattle.rbac_sets.specs.declared.row.Row.TheVariants.{PairRow}
use Rattle.rbac_sets.specs.declared.row.TheConstants.Row.{SESSION, ACTIVATED_ROLE}
use Rattle.rbac_sets.specs.declared.row.Change.TheVariants.{Put}
use Rattle.admin_mgr.specs.RbacState.{RbacState}
use Rattle.admin_mgr.specs.Run.{tally}
use Rattle.admin_mgr.specs.After.{paired, changed}
use Rattle.admin_mgr.specs.Verdict.{verdict}
use Rattle.admin_mgr.specs.Good.{IsGood}
use Rattle.admin_mgr.specs.private.PlanChanges.{pair_row, put_all}
use Rattle.admin_mgr.proofs.PlanRows.StepLaws.Way.{putting}
use Rattle.admin_mgr.proofs.PlanRows.StepLaws.{Steps, steps_append}
use Rattle.admin_mgr.proofs.PlanRows.RunLaws.{steps_put_one, steps_put_set, put_all-map}
use Rattle.admin_mgr.proofs.PlanRows.SetRows.{session_pair_rows, active_rows}
use Rattle.admin_mgr.proofs.StateAfter.SetRowLaws.{members_paired}
use Rattle.admin_mgr.proofs.StateAfter.NewSessionLaws.{create_session_absent, create_session_apart, after_create_session, good_after_create_session}
use Rattle.admin_mgr.proofs.PlanRows.PlainPlans.{IsDoneBy, done_by}

pub done_create_session : (S : RbacState) → IsGood S → (user : Bytes) (roles : Stored Bytes) (session : Bytes) → verdict S (CreateSession user roles session) ≡ None →
    IsDoneBy S (CreateSession user roles session) (Put (PairRow SESSION session user) ∷ put_all (λ role. PairRow ACTIVATED_ROLE session role) (members (set_of name_cmp roles)))
unfolding tally changed
done_create_session S good user roles session accepted =
    let more : RbacState = record S { sessions = insert S.sessions (session, user) } in
    let rows = ap (put_all (pair_row ACTIVATED_ROLE)) (members_paired session (set_of name_cmp roles)) ∙ put_all-map (pair_row ACTIVATED_ROLE) (λ role. (session, role)) (members (set_of name_cmp roles)) in
    done_by S (CreateSession user roles session) refl (after_create_session S good user roles session accepted) (good_after_create_session S good user roles session accepted) refl
    (subst (λ changes. Steps putting S (Put (PairRow SESSION session user) ∷ changes) (changed S (CreateSession user roles session))) rows
    (steps_append (steps_put_one session_pair_rows S (session, user) (create_session_absent S user roles session accepted good user))
    (steps_put_set active_rows pair_total pair_exact more (paired session (set_of name_cmp roles)) (create_session_apart S user roles session accepted good))))
