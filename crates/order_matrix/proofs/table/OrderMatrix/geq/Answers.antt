use Rattle.std.proofs.Common.{◌≡◌, ◌<◌, ◌≤◌, max, false, length, sym, subst, ◌∙◌, arith}
use Rattle.order_matrix.specs.Table.{Table, entry}
use Rattle.order_matrix.proofs.Entries.{entry_in, no_entry}
use Rattle.order_matrix.proofs.table.OrderMatrix.geq.Goals as goal

pub returns-then-max-len : goal.returns-then-max-len
returns-then-max-len c =
    let past : length c.self.inside.roles.names ≤ max c.args.above c.args.below = omega (arith, c.max.ensures, c.len.ensures, c.if-max-len.true) in
    subst (λ (t : Table). false ≡ entry t c.args.above c.args.below) c.self.view_is (sym (no_entry c.self.inside.roles.edges c.self.inside.roles.names c.args.above c.args.below past))

pub returns : goal.returns
returns c =
    let within : max c.args.above c.args.below < length c.self.inside.roles.names = omega (arith, c.max.ensures, c.len.ensures, c.if-max-len.false) in
    subst (λ (t : Table). c.geq.result ≡ entry t c.args.above c.args.below) c.self.view_is
    (c.geq.ensures ∙ sym (entry_in c.self.inside.roles.edges c.self.inside.roles.names c.args.above c.args.below (omega (arith, within)) (omega (arith, within))))
