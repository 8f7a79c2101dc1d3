use Rattle.std.proofs.Common.{rules}
use Rattle.std.proofs.lemmas.Iterator.Consumers.{YieldsList-from_first}
use Rattle.std.proofs.lemmas.Iterator.Search.{all_from_yields_List}
use Rattle.rbac_sets.specs.Sets.{Pair, all, any, pair_cmp, same_name}
use Rattle.rbac_sets.specs.SortedSet.{set_of}
use Rattle.chunked_sets.specs.Entries.{entries_left}
use Rattle.admin_mgr.proofs.relations.gathered.checks.have_sessions.Goals as goal

pub returns : goal.returns
unfolding all
returns c =
    all_from_yields_List (λ (pair : Pair). any (λ (session : Pair). same_name session.0 pair.0) (set_of pair_cmp c.args.sessions.now)) c.all.new.self _ _ c.all.ensures.ran
    (YieldsList-from_first (λ x. x.now) entries_left _ c.iter.ensures) (λ x b q k. search rules)
