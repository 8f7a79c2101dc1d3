use Rattle.std.proofs.Common.{not, ◌&&◌, rules}
use Rattle.std.proofs.lemmas.Iterator.Consumers.{YieldsList-from_first}
use Rattle.std.proofs.lemmas.Iterator.Search.{any_from_yields_List}
use Rattle.rbac_sets.specs.Sets.{Pair, contains, pair_cmp}
use Rattle.rbac_sets.specs.SortedSet.{set_of}
use Rattle.role_order.specs.Order.{geq}
use Rattle.chunked_sets.specs.Entries.{entries_left}
use Rattle.admin_mgr.proofs.planning.ending.is_held_without_pairs.Goals as goal

pub returns : goal.returns
returns c =
    any_from_yields_List (λ (pair : Pair). geq c.args.order.now.edges pair.1 c.args.role.now && not (contains (set_of pair_cmp c.args.lost.now) (pair.1, c.args.role.now))) c.any.new.self _ _ c.any.ensures.ran
    (YieldsList-from_first (λ x. x.now) entries_left _ c.iter.ensures) (λ x b q k. search rules)
