use Rattle.std.proofs.Common.{◌≡◌, ℕ, false, List, Option, length}
use Rattle.std.specs.List.{list_any}
use Rattle.sqlite.specs.Held.{state}
use Rattle.role_cli.specs.ServedConnections.{AreServed, is_closing}
use Rattle.role_cli.proofs.serving.serve_all.Given as goal

-- The connections so far had these statuses, none of which closed the office.
abbrev pub invariant-loop : goal.invariant-loop
invariant-loop g l = (statuses : List (Option ℕ)) × AreServed (state g.S.Store) (g.A.Accept.clients l.initial.host) (g.A.Accept.clients l.host) l.initial.office statuses l.office
    × (length statuses ≡ l.counter) × (list_any is_closing statuses ≡ false)
