use Rattle.std.proofs.Common.{◌≡◌, length}
use Rattle.std.specs.Io.KnownBytes.{Consumes}
use Rattle.httparse.specs.Grammar.{HasNoRequest}
use Rattle.role_http.proofs.head.read_head.Given as goal

abbrev pub invariant-loop : goal.invariant-loop
invariant-loop g l = record {
  none : HasNoRequest l.bytes.items;
  counted : length l.bytes.items ≡ l.counter;
  steady : g.R.Source.failed l.source ≡ g.R.Source.failed l.initial.source;
  read : Consumes (g.R.Source.remaining l.initial.source) (g.R.Source.remaining l.source) l.bytes.items;
}
