use Rattle.std.proofs.Common.{not, length, sym, ap, ◌∙◌}
use Rattle.std.specs.Prelude.{◌==◌}
use Rattle.chunked_sets.proofs.Emptiness.{by_length}
use Rattle.review_mgr.proofs.AccessByRuns.{session_if_activated}
use Rattle.review_mgr.proofs.access.is_session.Goals as goal

pub returns-then-not-is_empty : goal.returns-then-not-is_empty
returns-then-not-is_empty c =
    ap not c.if-not-is_empty.true
    ∙ sym (session_if_activated c.args.state.now.facts c.recall_good.ensures c.args.session.now (ap (λ xs. not (length xs == 0)) (sym c.requires) ∙ sym (ap not (by_length c.args.activated.now c.is_empty.result c.is_empty.ensures)) ∙ ap not c.if-not-is_empty.true))
