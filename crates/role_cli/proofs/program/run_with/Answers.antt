use Rattle.std.proofs.Common.{inl, inr, refl, subst, sym}
use Rattle.rbac_sets.specs.declared.refusal.Refusal.TheVariants.{Memory}
use Rattle.role_cli.specs.ErrorOutput.{no_memory_line}
use Rattle.role_cli.specs.Leftovers.{LeavesPaths}
use Rattle.role_cli.specs.ProgramOutcome.{path_of}
use Rattle.role_cli.specs.declared.failure.Failure.TheVariants.{Refused}
use Rattle.role_cli.proofs.Results.{if_err-both, on_ok-holds}
use Rattle.role_cli.proofs.program.run_with.Goals as goal

-- The choice is the one in the arguments, and status 0 means that it was done.
pub returns-in-Ok-clause-done : goal.returns-in-Ok-clause-done
returns-in-Ok-clause-done g c zero =
    inr (
      c.in-Ok.choice,
      c.in-Ok.ensures.ok,
      c.run_choice-done.ensures.unread,
      c.run_choice-done.ensures.unasked,
      on_ok-holds c.run_choice-done.result.0 _ (c.status_of.ensures.done.0 zero) c.run_choice-done.ensures.done,
    )

-- Status 1 means that it failed, and the line reports that failure.
pub returns-in-Ok-clause-stopped : goal.returns-in-Ok-clause-stopped
returns-in-Ok-clause-stopped g c one =
    let (failure, reported, fails) = if_err-both c.run_choice-done.result.0 _ _ (c.status_of.ensures.stopped one) (c.status_of.ensures.reported one) c.run_choice-done.ensures.failed in
    (failure, reported, inr (c.in-Ok.choice, c.in-Ok.ensures.ok, c.run_choice-done.ensures.unread, c.run_choice-done.ensures.unasked, fails))

pub returns-in-Ok-clause-left : goal.returns-in-Ok-clause-left
returns-in-Ok-clause-left g c =
    let chosen = c.in-Ok.choice in
    let paths = g.F.Folder.paths c.args.folder.now in
    let now = g.F.Folder.paths c.run_choice-done.new.folder in
    let settled = g.F.Folder.settled c.run_choice-done.new.folder in
    let failed = g.F.Folder.failed_calls c.args.folder.now in
    let now_failed = g.F.Folder.failed_calls c.run_choice-done.new.folder in
    inr (chosen, c.in-Ok.ensures.ok, subst (λ b. LeavesPaths chosen (path_of chosen) b c.run_choice-done.result.1 failed now_failed paths settled now) (sym c.status_of.ensures.failed) c.run_choice-done.ensures.left, c.run_choice-done.ensures.at)

-- An allocation failed before anything was chosen.
pub returns-in-Err-Memory-clause-stopped : goal.returns-in-Err-Memory-clause-stopped
returns-in-Err-Memory-clause-stopped g c _ = (Refused Memory, (no_memory_line, inl refl, c.report_no_memory.ensures), inl (refl, (refl, refl, refl), (refl, refl)))

pub returns-clause-stopped : goal.returns-clause-stopped
returns-clause-stopped g c stopped = (Refused Memory, (no_memory_line, inl refl, c.explain.ensures.reported stopped), inl (refl, (refl, c.explain.ensures.refused (inr stopped), refl), (refl, refl)))
