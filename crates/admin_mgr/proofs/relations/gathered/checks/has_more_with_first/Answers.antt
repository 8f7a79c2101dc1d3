use Rattle.std.proofs.Common.{nat_lt, rules, ◌∙◌}
use Rattle.std.proofs.lemmas.Iterator.Consumers.{YieldsList-from_first}
use Rattle.std.proofs.lemmas.Iterator.Search.{any_from_yields_List}
use Rattle.rbac_sets.specs.Sets.{Pair, any, len, pair_cmp, seconds}
use Rattle.rbac_sets.specs.SortedSet.{set_of}
use Rattle.chunked_sets.specs.Entries.{entries_left}
use Rattle.admin_mgr.proofs.relations.gathered.checks.has_more_with_first.Goals as goal

pub returns : goal.returns
unfolding any
returns g c =
    any_from_yields_List (λ (pair : Pair). nat_lt c.args.limit (len (seconds (set_of pair_cmp (g.P.EntrySet.stored c.args.pairs.now)) pair.0))) c.any.new.self _ _ c.any.ensures.ran
    (YieldsList-from_first (λ x. x.now) entries_left _ (c.iter.ensures ∙ c.entries.ensures)) (λ x b q k. search rules)
