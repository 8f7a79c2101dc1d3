use Rattle.std.proofs.Common.{◌≡◌, ◌≤◌, drop}
use Rattle.std.specs.Str.Parse.{digits_value, digits_value_after}
use Rattle.role_http.proofs.head_checks.length_of.Given as goal

abbrev pub invariant-loop-byte : goal.invariant-loop-byte
invariant-loop-byte l = record {
  value : digits_value 10 l.digits ≡ digits_value_after 10 l.count (drop l.byte-index l.digits);
  small : l.count ≤ l.most;
}
