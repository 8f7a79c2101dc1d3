-- What an iterator over the rows of a table has left.
use Rattle.std.specs.Prelude.{List, map}
use Rattle.chunked_sets.specs.Entries.{entries_left}
use Rattle.role_lines.specs.declared.rows.TableRows.{TableRows}
use Rattle.role_lines.specs.declared.rows.TableRows.TheVariants.{Names, Pairs, Grants, Cardinalities}
use Rattle.role_lines.specs.StoredRow.{Parts, cardinality_parts, name_parts, pair_parts, triple_parts}

-- the parts of the rows that are still to come
abbrev pub rows_left : TableRows → List Parts
rows_left (Names names) = map name_parts (entries_left names)
rows_left (Pairs pairs) = map pair_parts (entries_left pairs)
rows_left (Grants grants) = map triple_parts (entries_left grants)
rows_left (Cardinalities sets) = map cardinality_parts (entries_left sets)
