use Rattle.std.proofs.Common.{sym, ◌∙◌, ap, subst}
use Rattle.rbac_sets.specs.declared.row.Row.TheVariants.{PairRow}
use Rattle.rbac_sets.specs.declared.row.TheConstants.Row.{ASSIGNMENT}
use Rattle.rbac_sets.specs.declared.row.Change.TheVariants.{Take}
use Rattle.access_index.specs.Index.{Keeps, number_of}
use Rattle.access_index.specs.private.Changing.{rows_by}
use Rattle.access_index.proofs.IndexLaws.{keeps_take_assigned, keeps_take_absent, not_assigned, on_both}
use Rattle.access_index.proofs.index.AccessIndex.take_assigned.Goals as goal

pub returns-in-Some-clause-ok : goal.returns-in-Some-clause-ok
returns-in-Some-clause-ok c =
    on_both c.take.result _ _ _
    (λ gone others rows keeps.
    subst (λ user. Keeps (record c.forget_authorized.new.self { assigned = c.take.new.self }) (rows_by rows (Take (PairRow ASSIGNMENT user c.args.role.now)))) c.as_str-user.ensures.text
    (keeps_take_assigned c.forget_authorized.new.self rows (c.forget_authorized.ensures.keeps rows keeps) c.as_str-user.result.now c.args.role.now c.in-Some.number
    (ap (λ index. number_of index c.args.role.now) c.forget_authorized.ensures.rest ∙ sym c.number.ensures ∙ c.in-Some.is) c.take.new.self others
    c.forget_authorized.ensures.gone gone))
    c.take.ensures.gone c.take.ensures.others

pub returns-clause-ok : goal.returns-clause-ok
returns-clause-ok c rows keeps =
    keeps_take_absent c.args.self.now rows keeps (PairRow ASSIGNMENT c.args.user.now c.args.role.now)
    (not_assigned c.args.self.now rows keeps c.args.role.now (sym c.number.ensures ∙ c.in_default.is) c.args.user.now)
