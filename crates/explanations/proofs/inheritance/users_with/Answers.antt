use Rattle.std.proofs.Common.{rules, ap, ◌∙◌}
use Rattle.std.proofs.lemmas.Iterator.Consumers.{YieldsList-at, YieldsList-from_filter, YieldsList-from_first, map_from_collect}
use Rattle.rbac_sets.specs.Sets.{Bytes, members}
use Rattle.chunked_sets.specs.Entries.{entries_left}
use Rattle.admin_mgr.specs.private.HolderRoles.{is_reached, run_of}
use Rattle.explanations.proofs.inheritance.users_with.Goals as goal

pub returns : goal.returns
returns c =
    let S = c.args.state.now.facts in
    let users = YieldsList-from_first (λ x. x.now) entries_left _ (c.iter.ensures ∙ ap members c.users.ensures) in
    map_from_collect c.collect.result c.collect.ensures.ran
    (YieldsList-from_filter _ (λ (user : Bytes). is_reached S.edges (run_of S.assignments user) c.args.role.now) (YieldsList-at c.filter.ensures.source users) c.filter.ensures.closure (λ x b q k. search rules))
