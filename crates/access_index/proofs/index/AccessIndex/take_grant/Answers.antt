use Rattle.std.proofs.Common.{sym, ◌∙◌, subst}
use Rattle.rbac_sets.specs.declared.row.Row.TheVariants.{GrantRow}
use Rattle.rbac_sets.specs.declared.row.Change.TheVariants.{Take}
use Rattle.access_index.specs.Index.{Keeps}
use Rattle.access_index.specs.private.Changing.{rows_by}
use Rattle.access_index.proofs.IndexLaws.{keeps_take_grant, keeps_take_absent, not_granted, on_both}
use Rattle.access_index.proofs.index.AccessIndex.take_grant.Goals as goal

pub returns-in-Some-clause-ok : goal.returns-in-Some-clause-ok
returns-in-Some-clause-ok c =
    on_both c.take.result _ _ _
    (λ gone others rows keeps.
    subst (λ object. Keeps (record c.args.self.now { grants = c.take.new.self }) (rows_by rows (Take (GrantRow object c.args.operation.now c.args.role.now)))) c.as_str.ensures.text
    (subst (λ operation. Keeps (record c.args.self.now { grants = c.take.new.self }) (rows_by rows (Take (GrantRow c.as_str.result.now operation c.args.role.now)))) c.as_str-in-Some.ensures.text
    (keeps_take_grant c.args.self.now rows keeps c.as_str.result.now c.as_str-in-Some.result.now c.args.role.now c.in-Some.number (sym c.number.ensures ∙ c.in-Some.is) c.take.new.self others gone)))
    c.take.ensures.gone c.take.ensures.others

pub returns-clause-ok : goal.returns-clause-ok
returns-clause-ok c rows keeps =
    keeps_take_absent c.args.self.now rows keeps (GrantRow c.args.object.now c.args.operation.now c.args.role.now)
    (not_granted c.args.self.now rows keeps c.args.role.now (sym c.number.ensures ∙ c.in_default.is) (c.args.object.now, c.args.operation.now))
