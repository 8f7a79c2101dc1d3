-- The text of a stop.
use Rattle.std.specs.Prelude.{ℕ, List, ◌++◌, codes}
use Rattle.std.specs.Fmt.{decimal}
use Rattle.role_wire.specs.declared.lines.Cause.{Cause}
use Rattle.role_wire.specs.declared.lines.Cause.TheVariants.{Read, Write, Line, Store, Closed, Memory}
use Rattle.role_wire.specs.declared.lines.Stop.{Stop}

-- why a replay stopped, with the number of the line that is too long
abbrev pub cause_text : Cause → List ℕ
cause_text Read = codes "Read"
cause_text Write = codes "Write"
cause_text (Line number) = codes "Line " ++ decimal number
cause_text Store = codes "Store"
cause_text Closed = codes "Closed"
cause_text Memory = codes "Memory"

-- the cause, and how many answer lines were written whole
abbrev pub stop_text : Stop → List ℕ
stop_text stop = codes "stop " ++ (cause_text stop.cause ++ (codes " after " ++ decimal stop.answered))
