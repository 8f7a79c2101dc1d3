use Rattle.std.proofs.Common.{sym, ◌∙◌, ap}
use Rattle.std.specs.Option.{option_map}
use Rattle.rbac_sets.specs.Sets.{Cardinality}
use Rattle.admin_mgr.specs.private.SeparationOfDuty.{refusal_of}
use Rattle.admin_mgr.proofs.Verdicts.InheritLaws.{inheritance_violates}
use Rattle.admin_mgr.proofs.judge.hierarchy.refuse_first_violated.Goals as goal

pub returns : goal.returns
returns c =
    c.in_ok-named.ensures
    ∙ ap (λ o. option_map (refusal_of c.args.duty) (option_map (λ (entry : Cardinality). entry.0) o)) c.in_ok-violated.ensures
    ∙ sym (inheritance_violates c.args.state.now.facts c.recall_good.ensures c.args.asc.now c.args.desc.now c.requires.apart c.args.duty)
