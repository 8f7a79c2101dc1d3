use Rattle.bit_rows.proofs.Common.{meets_exactly}
use Rattle.bit_rows.proofs.word.meets.Goals as goal

pub returns : goal.returns
returns c = meets_exactly c.args.a c.args.b c.ranges.a.fits
