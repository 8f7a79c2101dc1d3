use Rattle.std.proofs.Common.{not, rules, ap, ◌∙◌}
use Rattle.std.proofs.lemmas.Iterator.Consumers.{YieldsList-from_first}
use Rattle.std.proofs.lemmas.Iterator.Search.{all_from_yields_List}
use Rattle.rbac_sets.specs.Sets.{Pair, all, contains, members}
use Rattle.chunked_sets.specs.Entries.{entries_left}
use Rattle.admin_mgr.proofs.checking.have_unlocked_users.Goals as goal

pub returns : goal.returns
unfolding all
returns c =
    let S = c.args.relations.now.facts in
    all_from_yields_List (λ (session : Pair). not (contains S.locked session.1)) c.all.new.self _ _ c.all.ensures.ran
    (YieldsList-from_first (λ x. x.now) entries_left _ (c.iter.ensures ∙ ap members c.sessions.ensures)) (λ x b q k. search rules)
