use Rattle.std.proofs.Common.{◌≡◌, rules, inl, inr, refl, Err, IfErr, sym, subst}
use Rattle.sqlite.specs.Held.{state}
use Rattle.role_tables.specs.TableContents.{contents_of}
use Rattle.role_tables.specs.Migration.{RefusesMigration}
use Rattle.role_tables.proofs.Reading.Judging.{version_2_seen, version_2_missed, refused_early}
use Rattle.role_tables.proofs.Reading.Durability.{kept_as_before}
use Rattle.role_tables.proofs.content_checks.refuse_v2.Goals as goal

pub returns-in_err-metas-clause-err : goal.returns-in_err-metas-clause-err
returns-in_err-metas-clause-err g c clean =
    let is : c.from_residual.result ≡ Err c.in_err-metas.field-0.0 = search rules in
    subst (λ r. IfErr r (RefusesMigration (contents_of (state g.S.Store c.args.conn.now).now))) (sym is) (refused_early (contents_of (state g.S.Store c.args.conn.now).now) c.in_err-metas.field-0.0 c.in_err-metas.ensures.refused)

pub returns-in_err-metas-clause-undone : goal.returns-in_err-metas-clause-undone
returns-in_err-metas-clause-undone g c outside clean =
    kept_as_before (state g.S.Store c.args.conn.now) (state g.S.Store c.find_metas-found.new.conn) (c.is_settled.ensures outside) (c.is_settled-2.ensures (c.find_metas-found.ensures.mode outside)) (c.find_metas-found.ensures.kept clean)

pub returns-then-is_of_version_2-clause-err : goal.returns-then-is_of_version_2-clause-err
returns-then-is_of_version_2-clause-err g c clean =
    let seen = c.in_ok-metas.ensures.seen clean in
    inr (inr (inl (refl, version_2_seen (state g.S.Store c.args.conn.now).now c.in_ok-metas.metas c.in_ok-metas.ensures.five seen.0 (search rules))))

pub returns-then-is_of_version_2-clause-undone : goal.returns-then-is_of_version_2-clause-undone
returns-then-is_of_version_2-clause-undone g c outside clean =
    kept_as_before (state g.S.Store c.args.conn.now) (state g.S.Store c.find_metas-found.new.conn) (c.is_settled.ensures outside) (c.is_settled-2.ensures (c.find_metas-found.ensures.mode outside)) (c.find_metas-found.ensures.kept clean)

pub returns-clause-passed : goal.returns-clause-passed
returns-clause-passed g c clean =
    let seen = c.in_ok-metas.ensures.seen clean in
    (version_2_missed (state g.S.Store c.args.conn.now).now c.in_ok-metas.metas c.in_ok-metas.ensures.five seen.0 (search rules), seen.1)

pub returns-clause-undone : goal.returns-clause-undone
returns-clause-undone g c outside clean =
    kept_as_before (state g.S.Store c.args.conn.now) (state g.S.Store c.find_metas-found.new.conn) (c.is_settled.ensures outside) (c.is_settled-2.ensures (c.find_metas-found.ensures.mode outside)) (c.find_metas-found.ensures.kept clean)
