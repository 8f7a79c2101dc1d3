use Rattle.std.proofs.Common.{inr, refl}
use Rattle.rbac_sets.specs.CommandContent.{content_of}
use Rattle.role_wire.proofs.Results.{if_err-then, if_ok-then}
use Rattle.role_cli.proofs.work.imported.Goals as goal

pub import_pairs-line-requires : goal.import_pairs-line-requires
unfolding content_of
import_pairs-line-requires g c = (c.in_ok-pairs.pairs.items, refl)

pub returns-clause-ok : goal.returns-clause-ok
unfolding content_of
returns-clause-ok g c = if_ok-then c.import_pairs-line.result _ _ c.import_pairs-line.ensures.ok (λ line (answer, performs, text). (c.in_ok-pairs.pairs.items, answer, c.in_ok-pairs.ensures.ok, performs, text))

pub returns-clause-err : goal.returns-clause-err
unfolding content_of
returns-clause-err g c = if_err-then c.import_pairs-line.result _ _ c.import_pairs-line.ensures.err (λ refusal why. inr (c.in_ok-pairs.pairs.items, c.in_ok-pairs.ensures.ok, why))
