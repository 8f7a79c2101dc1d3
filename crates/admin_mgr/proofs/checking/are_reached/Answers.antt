use Rattle.std.proofs.Common.{rules}
use Rattle.std.proofs.lemmas.Iterator.Consumers.{YieldsList-from_first}
use Rattle.std.proofs.lemmas.Iterator.Search.{all_from_yields_List}
use Rattle.rbac_sets.specs.Sets.{Pair}
use Rattle.chunked_sets.specs.Entries.{entries_left}
use Rattle.admin_mgr.specs.private.HolderRoles.{is_reached}
use Rattle.admin_mgr.proofs.checking.are_reached.Goals as goal

pub returns : goal.returns
returns c =
    all_from_yields_List (λ (pair : Pair). is_reached c.args.order.now.edges c.args.held.now pair.1) c.all.new.self _ _ c.all.ensures.ran
    (YieldsList-from_first (λ x. x.now) entries_left _ c.iter.ensures) (λ x b q k. search rules)
