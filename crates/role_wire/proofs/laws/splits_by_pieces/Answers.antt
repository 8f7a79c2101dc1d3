use Rattle.role_wire.proofs.Splitting as splitting
use Rattle.role_wire.proofs.laws.splits_by_pieces.Goals as goal

pub returns : goal.returns
returns c = splitting.splits_by_pieces
