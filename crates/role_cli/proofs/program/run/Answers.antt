use Rattle.std.proofs.Common.{ℕ, ◌≡◌, inl, inr, subst}
use Rattle.std.specs.Prelude.{None}
use Rattle.rbac_sets.specs.Stream.{HasRisen}
use Rattle.role_cli.specs.Hosts.{IsUntouched}
use Rattle.role_cli.specs.Leftovers.{NeverBegins}
use Rattle.role_cli.specs.ProgramOutcome.{FailsSomehow, IsDoneSomehow, path_of}
use Rattle.role_cli.proofs.Beginning.{fails_less}
use Rattle.role_cli.proofs.Machines.{on_machine}
use Rattle.role_cli.proofs.program.run.Goals as goal

-- It was done on the machine of this runtime.
pub returns-clause-done : goal.returns-clause-done
returns-clause-done g c zero =
    let machine = c.new-machine.result in
    let now = c.run_with-status.new.host in
    elim (c.run_with-status.ensures.done zero) [
      | inl (asks, same, _, _) ↦ inl (asks, same)
      | inr (choice, chooses, unread, _, is) ↦ inr (
        choice,
        chooses,
        unread,
        on_machine g.R.Source g.W.Sink (IsDoneSomehow _ _ choice) c.args.source.now c.run_with-status.new.source c.args.out.now c.run_with-status.new.out machine now c.new-machine.ensures.clients c.new-machine.ensures.failed
            (_, c.run_with-status.result.1, is),
      )
    ]

-- And so it failed.
pub returns-clause-stopped : goal.returns-clause-stopped
returns-clause-stopped g c one =
    let machine = c.new-machine.result in
    let now = c.run_with-status.new.host in
    let calls = c.run_with-status.new.folder.failed in
    let (failure, reported, why) = c.run_with-status.ensures.stopped one in
    elim why [
      | inl (memory, kept, _) ↦ (failure, reported, inl (memory, kept.0, kept.1))
      | inr (choice, chooses, unread, _, fails) ↦ (
        failure,
        reported,
        inr (
          choice,
          chooses,
          unread,
          on_machine g.R.Source g.W.Sink (FailsSomehow _ _ choice failure _ _) c.args.source.now c.run_with-status.new.source c.args.out.now c.run_with-status.new.out machine now c.new-machine.ensures.clients c.new-machine.ensures.failed (
            _,
            c.run_with-status.result.1,
            fails_less _ _ _ choice failure _ ((c.run_with-status.new.source ≡ c.args.source.now) × (c.run_with-status.new.out ≡ c.args.out.now)) _ ((n : ℕ) × NeverBegins choice (path_of choice) failure None (HasRisen 0 n) c.run_with-status.result.1) _ _ c.run_with-status.result.1 (λ (kept : IsUntouched c.args.source.now c.run_with-status.new.source c.args.out.now c.run_with-status.new.out machine now). (kept.0, kept.1))
                (λ cannot. (calls, subst (λ n. NeverBegins choice (path_of choice) failure None (HasRisen n calls) c.run_with-status.result.1) c.new-folder.ensures cannot)) fails,
          ),
        ),
      )
    ]
