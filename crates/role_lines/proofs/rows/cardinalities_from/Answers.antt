use Rattle.std.proofs.Common.{ap, drop, ◌∙◌}
use Rattle.rbac_sets.specs.Sets.{members, cardinality_cmp}
use Rattle.rbac_sets.specs.SortedSet.{set_of}
use Rattle.role_lines.specs.StoredRow.{cardinality_parts}
use Rattle.role_lines.proofs.RowsFrom.{mapped_from}
use Rattle.role_lines.proofs.rows.cardinalities_from.Goals as goal

pub returns : goal.returns
returns c place = mapped_from cardinality_parts (members (set_of cardinality_cmp c.args.sets.now)) _ c.args.index place (c.iter.ensures ∙ c.skip.ensures ∙ ap (drop c.args.index) c.entries.ensures)
