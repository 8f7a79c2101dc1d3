use Rattle.std.proofs.Common.{rules}
use Rattle.std.proofs.lemmas.Iterator.Consumers.{YieldsList-from_first}
use Rattle.std.proofs.lemmas.Iterator.Search.{any_from_yields_List}
use Rattle.rbac_sets.specs.Sets.{Pair}
use Rattle.role_order.specs.Order.{geq}
use Rattle.chunked_sets.specs.Entries.{entries_left}
use Rattle.admin_mgr.proofs.separation_of_duty.by_name.is_reached.Goals as goal

pub returns : goal.returns
returns c =
    any_from_yields_List (λ (pair : Pair). geq c.args.order.now.edges pair.1 c.args.role.now) c.any.new.self _ _ c.any.ensures.ran
    (YieldsList-from_first (λ x. x.now) entries_left _ c.iter.ensures) (λ x b q k. search rules)
