use Rattle.rbac_sets.specs.Sets.{Pair, same_name}
use Rattle.review_mgr.proofs.AccessByRuns.{any_second, any-members}
use Rattle.review_mgr.proofs.lookup.has_operation.Goals as goal

pub returns-then-contains : goal.returns-then-contains
returns-then-contains c = cc (any_second c.args.state.now.facts.permissions c.args.object.now c.args.operation.now (cc))

pub returns-else-contains : goal.returns-else-contains
returns-else-contains c = let p = λ (pair : Pair). same_name pair.1 c.args.operation.now in
    cc (any-members p c.args.state.now.facts.permissions)
