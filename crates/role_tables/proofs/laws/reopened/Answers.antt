use Rattle.std.proofs.Common.{not, ap, ◌∙◌}
use Rattle.sqlite.specs.Held.{state}
use Rattle.role_tables.proofs.StoredRows.SameTrees.{holds_what_was_left}
use Rattle.role_tables.proofs.laws.reopened.Goals as goal

pub returns : goal.returns
returns g c = holds_what_was_left (state g.S.Store c.args.conn.now) c.schema.ensures.live
    (λ outside. c.is_autocommit.ensures.settled (c.is_autocommit.ensures.value ∙ ap not outside))
    (λ is_open db may. g.met.S.Store.settled c.args.conn.now.store db is_open may)
