use Rattle.std.proofs.Common.{not, length, sym, ap, ◌∙◌}
use Rattle.std.specs.Prelude.{◌==◌}
use Rattle.chunked_sets.proofs.Emptiness.{by_length}
use Rattle.review_mgr.proofs.AccessByRuns.{object_if_granted}
use Rattle.review_mgr.proofs.access.is_object.Goals as goal

pub returns-then-not-is_empty : goal.returns-then-not-is_empty
returns-then-not-is_empty c =
    ap not c.if-not-is_empty.true
    ∙ sym (object_if_granted c.args.state.now.facts c.recall_good.ensures c.args.operation.now c.args.object.now (ap (λ xs. not (length xs == 0)) (sym c.requires) ∙ sym (ap not (by_length c.args.granted.now c.is_empty.result c.is_empty.ensures)) ∙ ap not c.if-not-is_empty.true))
