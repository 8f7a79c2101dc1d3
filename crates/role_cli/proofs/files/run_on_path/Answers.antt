use Rattle.sqlite.specs.WalFiles.{image_at}
use Rattle.role_cli.proofs.FileWork.{stands_in}
use Rattle.role_wire.proofs.Results.{if_err-then}
use Rattle.role_cli.proofs.Results.{on_ok-then}
use Rattle.role_cli.proofs.files.run_on_path.Goals as goal

pub returns-clause-done : goal.returns-clause-done
returns-clause-done g c clean =
    let early = c.run_on_connection.ensures.clean clean in
    let opened = c.in_ok-conn.ensures.opened early in
    let found = c.in_ok-conn.ensures.found early in
    on_ok-then c.run_on_connection.result.0 _ _ (c.run_on_connection.ensures.done clean) (λ works. record {
      opened = c.in_ok-conn.conn;
      is_open = opened;
      found = found;
      durable = stands_in (image_at g.D.Start) c.in_ok-conn.conn opened found c.reopened.ensures;
      work = works;
    })

pub returns-clause-failed : goal.returns-clause-failed
returns-clause-failed g c clean =
    let early = c.run_on_connection.ensures.clean clean in
    let opened = c.in_ok-conn.ensures.opened early in
    let found = c.in_ok-conn.ensures.found early in
    if_err-then c.run_on_connection.result.0 _ _ (c.run_on_connection.ensures.failed clean) (λ failure fails. record {
      opened = c.in_ok-conn.conn;
      is_open = opened;
      found = found;
      durable = stands_in (image_at g.D.Start) c.in_ok-conn.conn opened found c.reopened.ensures;
      work = fails;
    })

pub returns-clause-some : goal.returns-clause-some
returns-clause-some g c = c.run_on_connection.ensures.some

pub returns-clause-some_failed : goal.returns-clause-some_failed
returns-clause-some_failed g c = c.run_on_connection.ensures.some_failed
