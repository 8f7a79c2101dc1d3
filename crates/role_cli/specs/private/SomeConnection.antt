-- A connection of which it isn't known what the client sent and was sent. The definition in this file is used only in private
-- contracts.
use Rattle.std.specs.Prelude.{ℕ, List, Option, Some, None}
use Rattle.sqlite.specs.Held.{Held}
use Rattle.sqlite.specs.State.{State}
use Rattle.role_tables.specs.Office.{OfficeModel}
use Rattle.role_wire.specs.ServedRequest.{ServesRequest, StopsRequest}
use Rattle.role_wire.specs.declared.lines.Cause.{Cause}

module _ {S : Type 0} (shown : Held S → State) where
  -- the one request on it was answered with this status, or it stopped, whatever the client sent and was sent
  abbrev pub IsServedSomehow : OfficeModel S → Option ℕ → OfficeModel S → Type 0
  IsServedSomehow old (Some status) new =
      (left now_left written now_written : Option (List ℕ)) × ServesRequest shown old new left now_left written now_written status
  IsServedSomehow old None new =
      (why : Cause) × (left now_left written now_written : Option (List ℕ)) × StopsRequest shown why old new left now_left written now_written
