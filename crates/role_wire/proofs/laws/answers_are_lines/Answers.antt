use Rattle.role_wire.proofs.OneLine as one_line
use Rattle.role_wire.proofs.laws.answers_are_lines.Goals as goal

pub returns : goal.returns
returns c = one_line.answers_are_lines
