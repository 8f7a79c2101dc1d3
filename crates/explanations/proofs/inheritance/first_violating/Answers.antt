use Rattle.std.proofs.Common.{ℕ, List, cond, map, sym, ◌∙◌, ap}
use Rattle.std.specs.Prelude.{None}
use Rattle.rbac_sets.specs.Sets.{Bytes}
use Rattle.explanations.specs.private.Numbered.{first_reaching}
use Rattle.explanations.proofs.inheritance.first_violating.Goals as goal

pub returns-then-not-touches : goal.returns-then-not-touches
returns-then-not-touches c =
    ap (λ touched. cond touched (first_reaching c.args.table.now (map {B = Bytes × List ℕ} (λ one. (one.0.now, one.1.items)) c.args.holders.now) c.args.members.now c.args.cardinality) None)
    (sym c.if-not-touches.true ∙ c.touches.ensures)

pub returns : goal.returns
returns c =
    c.first_reaching.ensures
    ∙ ap (λ touched. cond touched (first_reaching c.args.table.now (map {B = Bytes × List ℕ} (λ one. (one.0.now, one.1.items)) c.args.holders.now) c.args.members.now c.args.cardinality) None)
    (sym c.if-not-touches.false ∙ c.touches.ensures)
