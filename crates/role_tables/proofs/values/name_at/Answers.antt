use Rattle.std.proofs.Common.{◌≡◌, rules, false}
use Rattle.rbac_sets.specs.Name.{is_name}
use Rattle.role_tables.proofs.Reading.Finding.{no_name}
use Rattle.role_tables.proofs.values.name_at.Goals as goal

pub returns-in_default-from_utf8-clause-err : goal.returns-in_default-from_utf8-clause-err
returns-in_default-from_utf8-clause-err c =
    let bad : is_name c.in-Ok-Text.bytes.now ≡ false = no_name c.in-Ok-Text.bytes.now c.in_default-from_utf8.ensures.cases.0 in
    search rules
