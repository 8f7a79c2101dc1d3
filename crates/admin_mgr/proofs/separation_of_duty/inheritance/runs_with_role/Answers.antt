use Rattle.std.proofs.Common.{rules, ◌∙◌, ap}
use Rattle.std.proofs.lemmas.Iterator.{items_from_collect}
use Rattle.std.proofs.lemmas.Iterator.Consumers.{YieldsList-at, YieldsList-from_filter, YieldsList-from_first}
use Rattle.admin_mgr.specs.private.HolderRoles.{is_reached}
use Rattle.admin_mgr.specs.private.Holders.{runs_left, runs_of}
use Rattle.admin_mgr.proofs.separation_of_duty.inheritance.runs_with_role.Goals as goal

pub returns : goal.returns
returns c =
    let runs = YieldsList-from_first (λ x. x) runs_left _ (c.runs.ensures ∙ ap (λ r. runs_of c.args.duty r.facts) c.relations.ensures) in
    items_from_collect c.collect.result c.collect.ensures.ran
    (YieldsList-from_filter _ (λ held. is_reached c.args.state.now.facts.edges held c.args.role.now) (YieldsList-at c.filter.ensures.source runs) c.filter.ensures.closure (λ x b q k. search rules))
