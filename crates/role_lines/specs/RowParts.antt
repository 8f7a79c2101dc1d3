-- The parts of a row in memory, as contracts see them.
use Rattle.role_lines.specs.declared.rows.RowParts.{RowParts}
use Rattle.role_lines.specs.StoredRow.{Parts}

abbrev pub parts_of : RowParts → Parts
parts_of row = record { first = row.first.now; second = row.second.now; third = row.third.now; number = row.number }
