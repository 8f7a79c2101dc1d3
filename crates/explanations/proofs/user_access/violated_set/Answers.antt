use Rattle.std.proofs.Common.{sym, ◌∙◌, ap}
use Rattle.std.specs.Option.{option_copied, option_map}
use Rattle.std.specs.Prelude.{is_some}
use Rattle.rbac_sets.specs.Sets.{Cardinality}
use Rattle.explanations.proofs.Finds.{is_some_copied}
use Rattle.explanations.proofs.ReasonLaws.{some_violated}
use Rattle.explanations.proofs.user_access.violated_set.Goals as goal

pub unwrap-set-requires : goal.unwrap-set-requires
unwrap-set-requires c = sym (is_some_copied c.first_violated.result) ∙ ap is_some c.first_violated.ensures ∙ some_violated c.args.state.now.facts c.args.role.now c.requires

pub returns : goal.returns
returns c = ap (option_map (λ (entry : Cardinality). entry.0)) (sym c.first_violated.ensures ∙ ap option_copied c.unwrap-set.ensures)
