use Rattle.std.proofs.Common.{rules, sym, ◌∙◌}
use Rattle.std.proofs.lemmas.Iterator.Consumers.{YieldsList-from_first}
use Rattle.std.proofs.lemmas.Iterator.Search.{all_from_yields_List}
use Rattle.rbac_sets.specs.Sets.{name_cmp}
use Rattle.rbac_sets.specs.SortedSet.{set_of}
use Rattle.admin_mgr.specs.private.Holders.{runs_left}
use Rattle.admin_mgr.proofs.Verdicts.KeepLaws.{kept_by_runs}
use Rattle.admin_mgr.proofs.separation_of_duty.keeping.keeps_by_name.Goals as goal

pub returns : goal.returns
returns c =
    all_from_yields_List _ c.all.new.self _ _ c.all.ensures.ran (YieldsList-from_first (λ x. x) runs_left _ c.runs.ensures) (λ x b q k. search rules)
    ∙ sym (kept_by_runs c.args.duty c.args.relations.now.facts (set_of name_cmp c.args.roles.now) c.args.cardinality)
