use Rattle.std.proofs.Common.{subst}
use Rattle.rbac_sets.specs.declared.row.Row.TheVariants.{GrantRow}
use Rattle.rbac_sets.specs.declared.row.Change.TheVariants.{Put}
use Rattle.access_index.specs.Index.{Keeps}
use Rattle.access_index.specs.private.Changing.{rows_by}
use Rattle.access_index.proofs.IndexLaws.{keeps_put_grant, on_both}
use Rattle.access_index.proofs.index.AccessIndex.put_grant.Goals as goal

pub returns-clause-ok : goal.returns-clause-ok
returns-clause-ok c =
    on_both c.put.result _ _ _
    (λ there others rows keeps.
    subst (λ object. Keeps (record c.number_for.new.self { grants = c.put.new.self }) (rows_by rows (Put (GrantRow object c.args.operation.now c.args.role.now)))) c.as_str.ensures.text
    (subst (λ operation. Keeps (record c.number_for.new.self { grants = c.put.new.self }) (rows_by rows (Put (GrantRow c.as_str.result.now operation c.args.role.now)))) c.as_str-2.ensures.text
    (keeps_put_grant c.number_for.new.self rows (c.in_ok-number.ensures.keeps rows keeps) c.as_str.result.now c.as_str-2.result.now c.args.role.now c.in_ok-number.number c.in_ok-number.ensures.number c.put.new.self others there)))
    c.put.ensures.there c.put.ensures.others
