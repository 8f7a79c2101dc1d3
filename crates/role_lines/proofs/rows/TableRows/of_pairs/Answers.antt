use Rattle.std.proofs.Common.{ap, drop, ◌∙◌}
use Rattle.role_lines.specs.StoredRow.{pair_parts}
use Rattle.role_lines.proofs.RowsFrom.{mapped_from}
use Rattle.role_lines.proofs.rows.TableRows.of_pairs.Goals as goal

pub returns : goal.returns
returns c place = mapped_from pair_parts c.args.pairs.now _ c.args.index place (c.iter.ensures ∙ c.skip.ensures ∙ ap (drop c.args.index) c.of.ensures)
