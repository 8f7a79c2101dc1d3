use Rattle.std.proofs.Common.{◌∙◌, sym}
use Rattle.std.proofs.lemmas.Bool.{true≢false}
use Rattle.role_order.proofs.Leading.{Leads-from_eq}
use Rattle.role_order.proofs.numbered.Numbered.geq.Goals as goal

pub returns-then-is_same : goal.returns-then-is_same
returns-then-is_same c = (λ t. Leads-from_eq (c.is_same.ensures.equal.0 t), λ l. c.if-is_same.true)

pub returns-else-is_same : goal.returns-else-is_same
returns-else-is_same c = (λ t. (c.leads.ensures.0 t).1, λ l. c.leads.ensures.1 ((λ e. true≢false (sym (c.is_same.ensures.equal.1 e) ∙ c.if-is_same.false)), l))
