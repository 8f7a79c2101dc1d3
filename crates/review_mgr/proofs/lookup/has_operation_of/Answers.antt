use Rattle.std.proofs.Common.{rules}
use Rattle.std.proofs.lemmas.Iterator.Consumers.{YieldsList-from_first}
use Rattle.std.proofs.lemmas.Iterator.Search.{any_from_yields_List}
use Rattle.rbac_sets.specs.Sets.{Pair, same_name}
use Rattle.chunked_sets.specs.Entries.{entries_left}
use Rattle.review_mgr.proofs.lookup.has_operation_of.Goals as goal

pub returns : goal.returns
returns c = any_from_yields_List (λ (permission : Pair). same_name permission.1 c.args.operation.now) c.any.new.self _ _ c.any.ensures.ran (YieldsList-from_first (λ x. x.now) entries_left _ c.iter.ensures) (λ x b q k. search rules)
