use Rattle.std.proofs.Common.{sym, ◌∙◌, ap, subst}
use Rattle.rbac_sets.specs.declared.row.Row.TheVariants.{PairRow}
use Rattle.rbac_sets.specs.declared.row.TheConstants.Row.{ASSIGNMENT}
use Rattle.rbac_sets.specs.declared.row.Change.TheVariants.{Put}
use Rattle.access_index.specs.Index.{Keeps, authorized_row, number_of}
use Rattle.access_index.specs.private.Changing.{rows_by}
use Rattle.access_index.proofs.IndexLaws.{keeps_put_assigned, on_both}
use Rattle.access_index.proofs.index.AccessIndex.put_assigned.Goals as goal

pub returns-clause-ok : goal.returns-clause-ok
returns-clause-ok c =
    on_both c.put.result _ _ _
    (λ there others rows keeps.
    subst (λ user. Keeps (record c.forget_authorized.new.self { assigned = c.put.new.self }) (rows_by rows (Put (PairRow ASSIGNMENT user c.args.role.now)))) c.as_str-2.ensures.text
    (keeps_put_assigned c.forget_authorized.new.self rows (c.forget_authorized.ensures.keeps rows (c.in_ok-number.ensures.keeps rows keeps)) c.as_str-2.result.now c.args.role.now c.in_ok-number.number
    (ap (λ index. number_of index c.args.role.now) c.forget_authorized.ensures.rest ∙ c.in_ok-number.ensures.number) c.put.new.self others
    (ap (authorized_row c.forget_authorized.new.self) (c.as_str-2.ensures.text ∙ sym c.as_str.ensures.text) ∙ c.forget_authorized.ensures.gone) there))
    c.put.ensures.there c.put.ensures.others
