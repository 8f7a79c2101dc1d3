use Rattle.std.proofs.Common.{rules, sym, ◌∙◌}
use Rattle.std.proofs.lemmas.Iterator.Consumers.{YieldsList-from_first}
use Rattle.std.proofs.lemmas.Iterator.Search.{all_from_yields_List}
use Rattle.admin_mgr.specs.private.SeparationOfDuty.{sets_of}
use Rattle.admin_mgr.specs.private.Holders.{runs_left}
use Rattle.admin_mgr.proofs.Verdicts.KeepLaws.{kept_members}
use Rattle.admin_mgr.proofs.separation_of_duty.keeping.keeps_members.Goals as goal

pub returns : goal.returns
returns c =
    let S = c.args.relations.now.facts in
    all_from_yields_List _ c.all.new.self _ _ c.all.ensures.ran (YieldsList-from_first (λ x. x) runs_left _ c.runs.ensures) (λ x b q k. search rules)
    ∙ sym (kept_members c.args.duty S (sets_of c.args.duty S) c.args.set.now c.args.cardinality)
