use Rattle.role_csv.proofs.Listing.{HasListed}
use Rattle.role_csv.proofs.reading.read_assignments.Given as goal

abbrev pub invariant-loop-number : goal.invariant-loop-number
invariant-loop-number l = HasListed l.fn.text l.number l.pairs.items l.reader
