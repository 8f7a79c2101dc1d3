use Rattle.std.proofs.Common.{ap, drop, ◌∙◌}
use Rattle.rbac_sets.specs.Sets.{members, name_cmp}
use Rattle.rbac_sets.specs.SortedSet.{set_of}
use Rattle.role_lines.specs.StoredRow.{name_parts}
use Rattle.role_lines.proofs.RowsFrom.{mapped_from}
use Rattle.role_lines.proofs.rows.names_from.Goals as goal

pub returns : goal.returns
returns g c place = mapped_from name_parts (members (set_of name_cmp (g.S.EntrySet.stored c.args.names.now))) _ c.args.index place (c.iter.ensures ∙ c.skip.ensures ∙ ap (drop c.args.index) c.entries.ensures)
