use Rattle.role_cli.proofs.memory.replay_on_files.Goals as goal

pub returns-clause-stopped : goal.returns-clause-stopped
returns-clause-stopped g c =
    let first = c.in_ok-office.ensures.ok in
    let stopped = c.in-Err.ensures.stopped first.is_closed in
    (stopped.0, c.in_ok-office.office, c.replay.new.office, stopped.1, first, stopped.2)

pub returns-in-Ok-clause-done : goal.returns-in-Ok-clause-done
returns-in-Ok-clause-done g c =
    let (input, consumes, answered, reaches) = c.in-Ok.ensures.ok in
    (c.in_ok-office.office, c.replay.new.office, c.in_ok-office.ensures.ok, (input, consumes, c.in-Ok.ensures.end, (_, answered), reaches))
