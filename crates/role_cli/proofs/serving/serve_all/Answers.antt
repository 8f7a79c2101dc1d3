use Rattle.std.proofs.Common.{rules, ◌≡◌, ◌∙◌, ℕ, Option, false, ap, ◌∷◌, ◌++◌, [], refl, sym, length-append, arith}
use Rattle.std.specs.Prelude.{IsErr}
use Rattle.sqlite.specs.Held.{state}
use Rattle.role_cli.specs.ServedConnections.{is_closing, status_in}
use Rattle.role_cli.proofs.Results.{on_err-holds}
use Rattle.role_cli.proofs.Served.{closing, open_then, served_same, served_then}
use Rattle.role_cli.proofs.serving.serve_all.Goals as goal

pub returns-in-Err-clause-ended : goal.returns-in-Err-clause-ended
returns-in-Err-clause-ended g c = ([], _, (refl, refl), (c.in-Err.ensures, refl, refl))

-- No further connection could be accepted.
pub returns-in_default-clause-ended : goal.returns-in_default-clause-ended
returns-in_default-clause-ended g c =
    let fails : IsErr c.serve_next.result = search rules in
    let (failed, kept) = on_err-holds c.serve_next.result _ fails c.serve_next.ensures.refused in
    let statuses = c.loop.invariant.0 in (
      statuses,
      _,
      served_same (state g.S.Store) _ _ _ _ _ statuses c.loop.invariant.1 kept,
      (omega (arith, c.loop.invariant.2), c.loop.invariant.3, failed),
    )

-- The last connection closed the office.
pub returns-then-closes_office-clause-ended : goal.returns-then-closes_office-clause-ended
returns-then-closes_office-clause-ended g c =
    let statuses = c.loop.invariant.0 in
    let status = status_in c.in-Ok-serve_next.answered in
    let closes = closing status (sym c.closes_office.ensures ∙ c.if-closes_office.true) in (
      statuses ++ status ∷ [],
      _,
      served_then (state g.S.Store) _ _ _ _ _ _ statuses status c.loop.invariant.1 c.in-Ok-serve_next.ensures.served,
      (omega (arith, length-append statuses (status ∷ []), c.loop.invariant.2), (statuses, ap (λ (status : Option ℕ). statuses ++ status ∷ []) closes, c.loop.invariant.3), refl),
    )

pub loop-init : goal.loop-init
loop-init g c = ([], (refl, refl), refl, refl)

pub loop-preserved : goal.loop-preserved
loop-preserved g c =
    let statuses = c.loop.invariant.0 in
    let status = status_in c.in-Ok-serve_next.answered in
    let other : is_closing status ≡ false = sym c.closes_office.ensures ∙ c.if-closes_office.false in (
      statuses ++ status ∷ [],
      served_then (state g.S.Store) _ _ _ _ _ _ statuses status c.loop.invariant.1 c.in-Ok-serve_next.ensures.served,
      omega (arith, length-append statuses (status ∷ []), c.loop.invariant.2),
      open_then (state g.S.Store) statuses status c.loop.invariant.3 other,
    )

pub returns-clause-all : goal.returns-clause-all
returns-clause-all g c = (c.loop.invariant.0, _, c.loop.invariant.1, (omega (arith, c.loop.invariant.2), c.loop.invariant.3, refl))
