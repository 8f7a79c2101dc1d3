use Rattle.std.proofs.Common.{ap, drop, ◌∙◌}
use Rattle.rbac_sets.specs.Sets.{members, pair_cmp}
use Rattle.rbac_sets.specs.SortedSet.{set_of}
use Rattle.role_lines.specs.StoredRow.{pair_parts}
use Rattle.role_lines.proofs.RowsFrom.{mapped_from}
use Rattle.role_lines.proofs.rows.pairs_from.Goals as goal

pub returns : goal.returns
returns g c place = mapped_from pair_parts (members (set_of pair_cmp (g.S.EntrySet.stored c.args.pairs.now))) _ c.args.index place (c.iter.ensures ∙ c.skip.ensures ∙ ap (drop c.args.index) c.entries.ensures)
