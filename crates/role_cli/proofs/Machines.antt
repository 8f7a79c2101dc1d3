-- What was met on the machine that the program runs on.
use Rattle.std.proofs.Common.{◌≡◌, ℕ, None, subst}
use Rattle.rbac_sets.specs.declared.sink.Sink as sink
use Rattle.rbac_sets.specs.declared.source.Source as source
use Rattle.role_cli.specs.Environment.{Environment}
use Rattle.role_cli.specs.Hosts.{OnMachine, clients_on_machine, environment_of, known_clients}
use Rattle.role_cli.specs.ServedConnections.{Clients}
use Rattle.role_cli.specs.declared.machine.Machine.{Machine}

-- it had listened on no port and read nothing before
pub on_machine : {R W : Type 0} (input : source.Ghosts R) (output : sink.Ghosts W) (Holds : Environment → Environment → Type 0) (source now_source : R) (out now_out : W) (machine now : Machine)
    → clients_on_machine machine ≡ known_clients None 0 0 → machine.failed_csv ≡ 0
    → Holds (environment_of input output source out (λ _. None) machine.failed_csv (clients_on_machine machine)) (environment_of input output now_source now_out (λ _. None) now.failed_csv (clients_on_machine now))
    → OnMachine input output Holds source out now_source now_out
on_machine input output Holds source now_source out now_out machine now nobody nothing holds =
    let to = environment_of input output now_source now_out (λ _. None) now.failed_csv (clients_on_machine now) in (
      now,
      subst (λ (n : ℕ). Holds (environment_of input output source out (λ _. None) n (known_clients None 0 0)) to) nothing
          (subst (λ (c : Clients). Holds (environment_of input output source out (λ _. None) machine.failed_csv c) to) nobody holds),
    )
