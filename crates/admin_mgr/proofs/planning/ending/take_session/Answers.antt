use Rattle.std.proofs.Common.{◌≡◌, ◌∷◌, [], ◌++◌, ◌∙◌, OnOk, ap, subst}
use Rattle.std.proofs.lemmas.List.{append_assoc}
use Rattle.rbac_sets.specs.declared.row.Row.TheVariants.{PairRow}
use Rattle.rbac_sets.specs.declared.row.TheConstants.Row.{SESSION, ACTIVATED_ROLE}
use Rattle.rbac_sets.specs.declared.row.Change.TheVariants.{Take}
use Rattle.admin_mgr.specs.private.HolderRoles.{run_of}
use Rattle.admin_mgr.specs.private.PlanChanges.{pair_row, take_all}
use Rattle.admin_mgr.proofs.planning.ending.take_session.Goals as goal

pub returns-clause-ok : goal.returns-clause-ok
returns-clause-ok c =
    let row = c.session.ensures ∙ (λ i. PairRow SESSION (c.in_ok-copy.ensures.ok i) (c.in_ok-copy-2.ensures.ok i)) in
    let taken = c.in_ok-take.ensures.ok ∙ (λ i. c.args.changes.now.items ++ Take (row i) ∷ []) in
    let roles = c.with_first.ensures ∙ ap (λ active. run_of active c.args.session.now) c.active.ensures in
    subst (λ changes. OnOk c.take_pairs.result (c.take_pairs.new.changes.items ≡ changes))
    ((λ i. taken i ++ take_all (pair_row ACTIVATED_ROLE) (roles i)) ∙ append_assoc c.args.changes.now.items _ _)
    c.take_pairs.ensures.ok
