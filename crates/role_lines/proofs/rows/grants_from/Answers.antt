use Rattle.std.proofs.Common.{ap, drop, ◌∙◌}
use Rattle.rbac_sets.specs.Sets.{members, triple_cmp}
use Rattle.rbac_sets.specs.SortedSet.{set_of}
use Rattle.role_lines.specs.StoredRow.{triple_parts}
use Rattle.role_lines.proofs.RowsFrom.{mapped_from}
use Rattle.role_lines.proofs.rows.grants_from.Goals as goal

pub returns : goal.returns
returns c place = mapped_from triple_parts (members (set_of triple_cmp c.args.grants.now)) _ c.args.index place (c.iter.ensures ∙ c.skip.ensures ∙ ap (drop c.args.index) c.entries.ensures)
