use Rattle.std.proofs.Common.{rules, ◌∙◌}
use Rattle.std.proofs.lemmas.Iterator.Consumers.{YieldsList-from_first}
use Rattle.std.proofs.lemmas.Iterator.Search.{all_from_yields_List}
use Rattle.rbac_sets.specs.Sets.{Pair, all, contains, name_cmp}
use Rattle.rbac_sets.specs.SortedSet.{set_of}
use Rattle.chunked_sets.specs.Entries.{entries_left}
use Rattle.admin_mgr.proofs.lookup.are_firsts_in.Goals as goal

pub returns : goal.returns
unfolding all
returns g c =
    all_from_yields_List (λ (pair : Pair). contains (set_of name_cmp (g.N.EntrySet.stored c.args.names.now)) pair.0) c.all.new.self _ _ c.all.ensures.ran
    (YieldsList-from_first (λ x. x.now) entries_left _ (c.iter.ensures ∙ c.entries.ensures)) (λ x b q k. search rules)
