use Rattle.std.proofs.Common.{◌+◌, not, ◌||◌, nat_lt, rules, List, ◌∙◌, ap}
use Rattle.std.specs.List.{list_all}
use Rattle.std.proofs.lemmas.Iterator.Consumers.{YieldsList-from_first}
use Rattle.std.proofs.lemmas.Iterator.Search.{all_from_yields_List}
use Rattle.rbac_sets.specs.Sets.{Pair}
use Rattle.admin_mgr.specs.private.HolderRoles.{is_reached, reached_members, run_of}
use Rattle.admin_mgr.specs.private.Holders.{runs_left, runs_of}
use Rattle.admin_mgr.proofs.Verdicts.KeepLaws.{with_member}
use Rattle.admin_mgr.proofs.separation_of_duty.keeping.keeps_with_by_name.Goals as goal

pub returns : goal.returns
returns c =
    let S = c.args.state.now.facts in
    let role = c.args.role.now in
    let members = c.with_first-members.ensures ∙ ap (λ pairs. run_of pairs c.args.set.now) c.members.ensures in
    all_from_yields_List
    (λ (held : List Pair). not (is_reached c.order-order.result.now.edges held role) || nat_lt (reached_members c.order-order.result.now.edges held c.with_first-members.result.now + 1) c.args.cardinality)
    c.all.new.self _ _ c.all.ensures.ran
    (YieldsList-from_first (λ x. x) runs_left _ (c.runs.ensures ∙ ap (λ r. runs_of c.args.duty r.facts) c.relations.ensures)) (λ x b q k. search rules)
    ∙ (λ i. list_all (λ (held : List Pair). not (is_reached (c.order-order.ensures i) held role) || nat_lt (reached_members (c.order-order.ensures i) held (members i) + 1) c.args.cardinality)
    (runs_of c.args.duty S))
    ∙ with_member c.args.duty S c.recall_good.ensures c.args.set.now role c.args.cardinality c.requires.there c.requires.absent
