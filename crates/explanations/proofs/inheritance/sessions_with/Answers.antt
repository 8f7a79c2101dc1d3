use Rattle.std.proofs.Common.{rules, ap, ◌∙◌}
use Rattle.std.proofs.lemmas.Iterator.{YieldsList-from_map_by}
use Rattle.std.proofs.lemmas.Iterator.Consumers.{YieldsList-at, YieldsList-from_filter, YieldsList-from_first, map_from_collect}
use Rattle.rbac_sets.specs.Sets.{Pair, members}
use Rattle.chunked_sets.specs.Entries.{entries_left}
use Rattle.admin_mgr.specs.private.HolderRoles.{is_reached, run_of}
use Rattle.explanations.proofs.inheritance.sessions_with.Goals as goal

pub returns : goal.returns
returns c =
    let S = c.args.state.now.facts in
    let sessions = YieldsList-from_first (λ x. x.now) entries_left _ (c.iter.ensures ∙ ap members c.sessions.ensures) in
    let with_role =
    YieldsList-from_filter _ (λ (session : Pair). is_reached S.edges (run_of S.active session.0) c.args.role.now) (YieldsList-at c.filter.ensures.source sessions) c.filter.ensures.closure (λ x b q k. search rules) in
    map_from_collect c.collect.result c.collect.ensures.ran
    (YieldsList-from_map_by _ (λ x. x.now) (λ (session : Pair). session.0) (YieldsList-at c.map.ensures.source with_role) c.map.ensures.closure (λ x r q k. search rules))
