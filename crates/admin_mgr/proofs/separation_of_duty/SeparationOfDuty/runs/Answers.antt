use Rattle.std.proofs.Common.{map, ap, ◌∙◌}
use Rattle.std.proofs.lemmas.Simd.{map-map}
use Rattle.rbac_sets.specs.Sets.{Pair, members}
use Rattle.admin_mgr.specs.private.HolderRoles.{run_of}
use Rattle.admin_mgr.proofs.separation_of_duty.SeparationOfDuty.runs.Goals as goal

pub returns-in-Dynamic : goal.returns-in-Dynamic
returns-in-Dynamic c =
    let S = c.args.relations.now.facts in
    rw c.in-Dynamic.is (
    (λ i. map (run_of (c.active.ensures i)) (map (λ (session : Pair). session.0) ((c.iter-in-Dynamic.ensures ∙ ap members c.sessions.ensures) i)))
    ∙ map-map (run_of S.active) (λ (session : Pair). session.0) (members S.sessions))
