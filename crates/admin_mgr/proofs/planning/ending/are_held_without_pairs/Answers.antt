use Rattle.std.proofs.Common.{rules}
use Rattle.std.proofs.lemmas.Iterator.Consumers.{YieldsList-from_first}
use Rattle.std.proofs.lemmas.Iterator.Search.{all_from_yields_List}
use Rattle.rbac_sets.specs.Sets.{Pair, pair_cmp}
use Rattle.rbac_sets.specs.SortedSet.{set_of}
use Rattle.chunked_sets.specs.Entries.{entries_left}
use Rattle.admin_mgr.specs.private.SessionContinuation.{is_held_without_pairs}
use Rattle.admin_mgr.proofs.planning.ending.are_held_without_pairs.Goals as goal

pub returns : goal.returns
returns c =
    all_from_yields_List (λ (pair : Pair). is_held_without_pairs c.args.order.now.edges c.args.held.now (set_of pair_cmp c.args.lost.now) pair.1) c.all.new.self _ _ c.all.ensures.ran
    (YieldsList-from_first (λ x. x.now) entries_left _ c.iter.ensures) (λ x b q k. search rules)
