use Rattle.std.proofs.Common.{◌≡◌}
use Rattle.std.specs.Prelude.{Some}
use Rattle.rbac_c.proofs.calls.rbac_office_rows.Goals as goal

pub returns-in-Some-clause-copies : goal.returns-in-Some-clause-copies
returns-in-Some-clause-copies c =
    let same : c.args.office.now.office ≡ Some c.deref.result.now = cc (c.in-Some.ensures, c.replace.ensures.value, c.deref.ensures) in
    rw same c.rows-result.ensures
