use Rattle.std.proofs.Common.{◌&&◌, not, sym, subst}
use Rattle.std.specs.Prelude.{IfSome}
use Rattle.bit_rows.specs.Rows.{has}
use Rattle.bit_tables.specs.Tables.{holds}
use Rattle.access_index.specs.Index.{IsAuthorized}
use Rattle.access_index.proofs.AuthorizedLaws.{authorized_reaches}
use Rattle.access_index.proofs.index.AccessIndex.user_reaches.Goals as goal

pub returns-in-Some : goal.returns-in-Some
returns-in-Some c rows keeps =
    let index = c.args.self.now in
    let user = c.args.user.now in
    authorized_reaches index user (holds c.args.assigned.now) (λ n. holds c.args.granted.now n && not (has c.args.barred.now n)) c.in-Some.authorized.now c.requires
    (subst (λ o. IfSome o (IsAuthorized index user)) (sym c.in-Some.ensures.value) (keeps.authorized user)) c.meets_without.result c.meets_without.ensures
