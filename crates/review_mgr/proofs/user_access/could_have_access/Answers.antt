use Rattle.std.proofs.Common.{◌∙◌, ap}
use Rattle.review_mgr.specs.private.Usable.{could_use}
use Rattle.review_mgr.proofs.AccessByRuns.{user_access_reached}
use Rattle.review_mgr.proofs.user_access.could_have_access.Goals as goal

pub returns : goal.returns
returns c =
    c.is_usable.ensures
    ∙ ap (could_use c.args.state.now.facts c.args.user.now) c.requires
    ∙ user_access_reached c.args.state.now.facts c.recall_good.ensures c.args.user.now c.args.operation.now c.args.object.now
