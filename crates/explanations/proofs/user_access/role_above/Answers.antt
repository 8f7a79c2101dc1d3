use Rattle.std.proofs.Common.{sym, ◌∙◌, ap}
use Rattle.std.specs.Option.{option_copied, option_map}
use Rattle.std.specs.Prelude.{is_some}
use Rattle.rbac_sets.specs.Sets.{Pair}
use Rattle.role_order.specs.Order.{geq}
use Rattle.explanations.proofs.Finds.{is_some_copied, some_passes}
use Rattle.explanations.proofs.user_access.role_above.Goals as goal

pub unwrap-pair-requires : goal.unwrap-pair-requires
unwrap-pair-requires c =
    sym (is_some_copied c.first_above.result) ∙ ap is_some c.first_above.ensures
    ∙ some_passes (λ (pair : Pair). geq c.args.order.now.edges pair.1 c.args.role.now) c.args.held.now c.requires

pub returns : goal.returns
returns c = ap (option_map (λ (pair : Pair). pair.1)) (sym c.first_above.ensures ∙ ap option_copied c.unwrap-pair.ensures)
