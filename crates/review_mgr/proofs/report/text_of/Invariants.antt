use Rattle.std.proofs.Common.{◌≡◌, take}
use Rattle.std.specs.Prelude.{string_bytes}
use Rattle.review_mgr.specs.Report.{columns}
use Rattle.review_mgr.proofs.report.text_of.Given as goal

-- the columns of the numbers so far
abbrev pub invariant-loop-number : goal.invariant-loop-number
invariant-loop-number l = string_bytes l.text ≡ columns (take l.number-index l.counts)
