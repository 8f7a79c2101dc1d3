use Rattle.std.proofs.Common.{take, ◌++◌, ◌≤◌}
use Rattle.std.specs.Io.KnownBytes.{Appends}
use Rattle.review_mgr.specs.Report.{heading, lines_of}
use Rattle.review_mgr.proofs.report.report_roles.Given as goal

-- the heading and the lines of the roles so far were written, and no count of the sink decreased
abbrev pub invariant-loop-role : goal.invariant-loop-role
invariant-loop-role g l = record {
  written : Appends (g.W.Sink.written l.fn.sink) (g.W.Sink.written l.sink) (heading ++ lines_of l.state.facts (take l.role-index l.role-items));
  failures : g.W.Sink.failed l.fn.sink ≤ g.W.Sink.failed l.sink;
  idle : g.W.Sink.idle l.fn.sink ≤ g.W.Sink.idle l.sink;
}
