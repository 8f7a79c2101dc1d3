use Rattle.std.proofs.Common.{◌≡◌}
use Rattle.role_http.specs.HeadChecks.{has_field}
use Rattle.role_http.proofs.Fields.{rest_of}
use Rattle.role_http.proofs.head_checks.has_field.Given as goal

abbrev pub invariant-loop-field : goal.invariant-loop-field
invariant-loop-field l = has_field l.name (rest_of l.bytes l.fields 0) ≡ has_field l.name (rest_of l.bytes l.fields l.field-index)
