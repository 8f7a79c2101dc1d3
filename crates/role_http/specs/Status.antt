-- The statuses of refusals.
use Rattle.std.specs.Prelude.{ℕ}
use Rattle.rbac_sets.specs.declared.refusal.Refusal.{Refusal}
use Rattle.rbac_sets.specs.declared.refusal.Refusal.TheVariants.{BadName, BadRequest, UnknownFunction, BadCsv, Memory, Store, Closed}

-- the status of a reply that reports a refusal
abbrev pub status_of : Refusal → ℕ
status_of BadName = 400
status_of BadRequest = 400
status_of (BadCsv _) = 400
status_of UnknownFunction = 404
status_of Memory = 503
status_of Store = 500
status_of Closed = 500
status_of _ = 409
