use Rattle.std.proofs.Common.{◌≡◌, ◌∙◌, inr, refl, arith, subst, sym}
use Rattle.std.specs.Prelude.{IfSome}
use Rattle.role_cli.specs.Paths.{ChangesOffice}
use Rattle.role_cli.proofs.Beginning.{store_fails}
use Rattle.role_cli.proofs.FileWork.{fails_on, works_on}
use Rattle.rbac_sets.proofs.Counting.{risen_since}
use Rattle.role_cli.proofs.PathChanges.{closed_left, office_then, unopened_left}
use Rattle.role_cli.proofs.Results.{if_err-given, on_ok-given}
use Rattle.role_cli.proofs.files.run_in_file.Goals as goal

-- ---- what is at the path can be no office

pub returns-in-Err-clause-failed : goal.returns-in-Err-clause-failed
returns-in-Err-clause-failed g c = ((refl, refl, refl), c.in-Err.ensures.cannot)

pub returns-in-Err-clause-some_failed : goal.returns-in-Err-clause-some_failed
returns-in-Err-clause-some_failed g c = inr (c.in-Err.ensures.refusal, (refl, refl, refl))

pub returns-in-Err-clause-left : goal.returns-in-Err-clause-left
returns-in-Err-clause-left g c = (c.in-Err.ensures.settled ∙ c.requires.folder, c.in-Err.ensures.same)

pub returns-in-Err-clause-at : goal.returns-in-Err-clause-at
returns-in-Err-clause-at g c opened = absurd (opened refl)

-- ---- the work was done over the connection, and so over the files, by what became of them

pub returns-in-Ok-run_on_path-clause-done : goal.returns-in-Ok-run_on_path-clause-done
returns-in-Ok-run_on_path-clause-done g c =
    let worked = c.in-Ok-run_on_path in
    on_ok-given worked.done _ _ _ worked.ensures.done (λ works. works_on _ _ worked.conn c.close.result c.close.ensures.closed c.settled.ensures works)

pub returns-in-Ok-run_on_path-clause-failed : goal.returns-in-Ok-run_on_path-clause-failed
returns-in-Ok-run_on_path-clause-failed g c =
    let worked = c.in-Ok-run_on_path in
    if_err-given worked.done _ _ _ worked.ensures.failed (λ failure fails. fails_on _ _ failure _ _ _ _ worked.conn c.close.result c.close.ensures.closed c.settled.ensures fails)

pub returns-in-Ok-run_on_path-clause-some : goal.returns-in-Ok-run_on_path-clause-some
returns-in-Ok-run_on_path-clause-some g c = c.in-Ok-run_on_path.ensures.some

pub returns-in-Ok-run_on_path-clause-some_failed : goal.returns-in-Ok-run_on_path-clause-some_failed
returns-in-Ok-run_on_path-clause-some_failed g c = c.in-Ok-run_on_path.ensures.some_failed

pub returns-in-Ok-run_on_path-clause-left : goal.returns-in-Ok-run_on_path-clause-left
returns-in-Ok-run_on_path-clause-left g c =
    let first = g.F.Folder.failed_calls c.args.folder.now in
    let mid = g.F.Folder.failed_calls c.run_on_path.new.folder in
    let path = c.args.path.now in
    let start = g.F.Folder.paths c.args.folder.now in
    let opened = g.F.Folder.paths c.run_on_path.new.folder in
    let last = g.F.Folder.settled c.close.new.folder in
    let until_open : ChangesOffice path start opened = subst (ChangesOffice path start) c.in-Ok-run_on_path.ensures.kept (subst (λ p. ChangesOffice path p (g.F.Folder.settled c.run_on_path.new.folder)) c.in-Ok.ensures.same c.run_on_path.ensures.touched) in
    closed_left c.args.choice.now path _ c.in-Ok.before c.to_restore-restored.result first mid _ start last _ c.in-Ok.ensures.before c.to_restore-restored.ensures
    (office_then path start opened last until_open c.close.ensures.touched) (omega (arith, c.in-Ok.ensures.count, c.run_on_path.ensures.count)) c.close.result c.close.ensures.left

pub returns-in-Ok-run_on_path-clause-at : goal.returns-in-Ok-run_on_path-clause-at
returns-in-Ok-run_on_path-clause-at g c _ = subst (λ opened_at. IfSome opened_at (λ at. at ≡ c.args.path.now)) (sym c.close.ensures.at) c.run_on_path.ensures.at

-- ---- the files could not be opened

pub returns-in-Err-run_on_path-clause-failed : goal.returns-in-Err-run_on_path-clause-failed
returns-in-Err-run_on_path-clause-failed g c =
    let why = c.in-Err-run_on_path.ensures.unopened in
    (why.0, (refl, risen_since _ _ _ c.in-Ok.ensures.count why.1))

pub returns-in-Err-run_on_path-clause-some_failed : goal.returns-in-Err-run_on_path-clause-some_failed
returns-in-Err-run_on_path-clause-some_failed g c =
    let why = c.in-Err-run_on_path.ensures.unopened in
    inr (store_fails c.args.choice.now _ refl, why.0)

pub returns-in-Err-run_on_path-clause-left : goal.returns-in-Err-run_on_path-clause-left
returns-in-Err-run_on_path-clause-left g c =
    let path = c.args.path.now in
    let touched : ChangesOffice path (g.F.Folder.paths c.args.folder.now) (g.F.Folder.settled c.run_on_path.new.folder) =
    subst (λ p. ChangesOffice path p (g.F.Folder.settled c.run_on_path.new.folder)) c.in-Ok.ensures.same c.run_on_path.ensures.touched in
    (c.in-Ok.before, c.in-Ok.ensures.before, touched, unopened_left c.in-Err-run_on_path.opened c.in-Ok.before path _ _ _ _ _ c.in-Ok.ensures.count c.in-Err-run_on_path.ensures.restored)

pub returns-in-Err-run_on_path-clause-at : goal.returns-in-Err-run_on_path-clause-at
returns-in-Err-run_on_path-clause-at g c _ = c.run_on_path.ensures.at
