use Rattle.std.proofs.Common.{rules}
use Rattle.std.proofs.lemmas.Iterator.Consumers.{YieldsList-from_first}
use Rattle.std.proofs.lemmas.Iterator.Search.{all_from_yields_List}
use Rattle.rbac_sets.specs.Sets.{Triple, all, contains, pair_cmp}
use Rattle.rbac_sets.specs.SortedSet.{set_of}
use Rattle.chunked_sets.specs.Entries.{entries_left}
use Rattle.admin_mgr.proofs.relations.gathered.checks.have_permissions.Goals as goal

pub returns : goal.returns
unfolding all
returns c =
    all_from_yields_List (λ (grant : Triple). contains (set_of pair_cmp c.args.permissions.now) (grant.0, grant.1)) c.all.new.self _ _ c.all.ensures.ran
    (YieldsList-from_first (λ x. x.now) entries_left _ c.iter.ensures) (λ x b q k. search rules)
