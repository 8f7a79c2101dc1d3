use Rattle.std.proofs.Common.{◌≡◌, None, true, IfSome}
use Rattle.std.specs.Prelude.{option_map, codes}
use Rattle.role_http.specs.HeadChecks.{is_length, one_length, values_of}
use Rattle.role_http.proofs.Fields.{rest_of}
use Rattle.role_http.proofs.head_checks.one_length.Given as goal

abbrev pub invariant-loop-field : goal.invariant-loop-field
invariant-loop-field l = record {
  left : one_length None (values_of (codes "content-length") (rest_of l.bytes l.fields 0)) ≡ one_length (option_map (λ value. value.now) l.told) (values_of (codes "content-length") (rest_of l.bytes l.fields l.field-index));
  good : IfSome l.told (λ value. is_length value.now ≡ true);
}
