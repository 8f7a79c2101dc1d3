use Rattle.std.proofs.Common.{inl, inr, refl, subst}
use Rattle.sqlite.specs.Held.{state}
use Rattle.sqlite.specs.State.{HasCleanDisk}
use Rattle.role_wire.proofs.Results.{if_err-then}
use Rattle.role_cli.proofs.Results.{on_ok-then}
use Rattle.role_cli.proofs.work.run_on_connection.Goals as goal

-- The work was done over the office that was opened, and continues its run.
pub returns-in-Ok-clause-done : goal.returns-in-Ok-clause-done
returns-in-Ok-clause-done g c clean =
    let it = c.run_on_office-done.ensures in
    let first_is_clean = it.continues.clean (subst (λ conn. HasCleanDisk (state g.S.Store conn)) c.into_connection.ensures.same clean) in
    on_ok-then c.run_on_office-done.result _ _ it.done (λ does. record {
      first = c.in-Ok.office;
      last = c.run_on_office-done.new.office;
      is_open = c.in-Ok.ensures.open;
      begins = c.in-Ok.ensures.begins first_is_clean;
      work = does;
      continues = it.continues;
      is_last = c.into_connection.ensures.same;
      is_outside = c.into_connection.ensures.autocommit;
    })

pub returns-in-Ok-clause-failed : goal.returns-in-Ok-clause-failed
returns-in-Ok-clause-failed g c clean =
    let it = c.run_on_office-done.ensures in
    let first_is_clean = it.continues.clean (subst (λ conn. HasCleanDisk (state g.S.Store conn)) c.into_connection.ensures.same clean) in
    if_err-then c.run_on_office-done.result _ _ it.failed (λ failure fails. inl (record {
      first = c.in-Ok.office;
      last = c.run_on_office-done.new.office;
      is_open = c.in-Ok.ensures.open;
      begins = c.in-Ok.ensures.begins first_is_clean;
      work = fails;
      continues = it.continues;
      is_last = c.into_connection.ensures.same;
      is_outside = c.into_connection.ensures.autocommit;
    }))

pub returns-in-Ok-clause-some : goal.returns-in-Ok-clause-some
returns-in-Ok-clause-some g c =
    on_ok-then c.run_on_office-done.result _ _ c.run_on_office-done.ensures.done
    (λ does. (c.in-Ok.office, c.run_on_office-done.new.office, c.in-Ok.ensures.open, c.recall_good.ensures.0, c.recall_good.ensures.1, c.in-Ok.ensures.made, does))

pub returns-in-Ok-clause-some_failed : goal.returns-in-Ok-clause-some_failed
returns-in-Ok-clause-some_failed g c =
    if_err-then c.run_on_office-done.result _ _ c.run_on_office-done.ensures.failed
    (λ failure fails. inl (c.in-Ok.office, c.run_on_office-done.new.office, c.in-Ok.ensures.open, c.recall_good.ensures.0, c.recall_good.ensures.1, c.in-Ok.ensures.made, fails))

pub returns-in-Err-clause-some_failed : goal.returns-in-Err-clause-some_failed
returns-in-Err-clause-some_failed g c = inr (c.in-Err.ensures.refusal, (refl, refl, refl))
