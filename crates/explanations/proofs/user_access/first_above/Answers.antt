use Rattle.std.proofs.Common.{◌∙◌, rules}
use Rattle.std.proofs.lemmas.Iterator.Consumers.{YieldsList-from_first}
use Rattle.std.proofs.lemmas.Iterator.Search.{find_from_yields_List}
use Rattle.rbac_sets.specs.Sets.{Pair}
use Rattle.chunked_sets.specs.Entries.{entries_left}
use Rattle.role_order.specs.Order.{geq}
use Rattle.explanations.proofs.Finds.{copied_is}
use Rattle.explanations.proofs.user_access.first_above.Goals as goal

pub returns : goal.returns
returns c =
    copied_is c.find.result
    ∙ find_from_yields_List (λ (pair : Pair). geq c.args.order.now.edges pair.1 c.args.role.now) c.find.new.self _ _ c.find.ensures.ran (YieldsList-from_first (λ x. x.now) entries_left _ c.iter.ensures) (λ x b q k. search rules)
