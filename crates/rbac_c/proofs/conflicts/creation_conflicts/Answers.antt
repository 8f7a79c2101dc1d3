use Rattle.rbac_c.specs.Conflicts.{divided}
use Rattle.rbac_c.proofs.SessionCommands.{creation_violates}
use Rattle.rbac_c.proofs.conflicts.creation_conflicts.Goals as goal

pub returns-clause-violated : goal.returns-clause-violated
returns-clause-violated c =
    creation_violates (λ pairs. pairs.items) c.args.state.now.facts c.in_ok-user.user c.args.user.now (divided c.args.roles.now c.args.lengths.now) c.in_ok-roles.roles c.violated_by_creation.result
    c.in_ok-user.ensures.ok.0 c.in_ok-roles.ensures.ok.0 c.violated_by_creation.ensures.answered c.violated_by_creation.ensures.value
