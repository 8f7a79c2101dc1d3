use Rattle.std.proofs.Common.{refl, sym, subst, ◌∙◌}
use Rattle.std.specs.Prelude.{is_err}
use Rattle.std.proofs.lemmas.Bool.{true≢false}
use Rattle.sqlite.specs.WalFiles.{image_at}
use Rattle.rbac_sets.specs.Stream.{HasRisen}
use Rattle.role_cli.specs.Leftovers.{LeavesPaths, NeverBegins, OpensAt}
use Rattle.role_cli.proofs.Beginning.{fails_in_file, fails_in_memory, of_file, of_memory}
use Rattle.role_cli.proofs.Results.{if_err-join, on_ok-join, on_ok-then}
use Rattle.role_cli.proofs.program.run_choice.Goals as goal

-- ---- an office in a file

pub returns-in-Some-clause-done : goal.returns-in-Some-clause-done
returns-in-Some-clause-done g c =
    on_ok-join c.run_in_file.result.0 _ _ _ c.run_in_file.ensures.some c.run_in_file.ensures.done (λ over done. of_file _ _ _ c.args.choice.now _ _ c.run_in_file.result.1 c.in-Some.ensures.some.0 over done)

pub returns-in-Some-clause-failed : goal.returns-in-Some-clause-failed
returns-in-Some-clause-failed g c =
    let paths = g.F.Folder.paths c.args.folder.now in
    let call_failed = HasRisen (g.F.Folder.failed_calls c.args.folder.now) (g.F.Folder.failed_calls c.run_in_file.new.folder) in
    if_err-join c.run_in_file.result.0 _ _ _ c.run_in_file.ensures.some_failed c.run_in_file.ensures.failed
    (λ failure over fails. fails_in_file _ _ _ c.args.choice.now failure _ (λ path. NeverBegins c.args.choice.now path failure paths call_failed c.run_in_file.result.1) _ _ c.run_in_file.result.1 _ _ c.in-Some.ensures.some.0 c.in-Some.ensures.some.1 over fails)

pub returns-in-Some-clause-left : goal.returns-in-Some-clause-left
returns-in-Some-clause-left g c =
    let paths = g.F.Folder.paths c.args.folder.now in
    let now = g.F.Folder.paths c.run_in_file.new.folder in
    let settled = g.F.Folder.settled c.run_in_file.new.folder in
    let failed = g.F.Folder.failed_calls c.args.folder.now in
    let now_failed = g.F.Folder.failed_calls c.run_in_file.new.folder in
    subst (λ path. LeavesPaths c.args.choice.now path (is_err c.run_in_file.result.0) c.run_in_file.result.1 failed now_failed paths settled now) c.in-Some.ensures.some.1 c.run_in_file.ensures.left

pub returns-in-Some-clause-at : goal.returns-in-Some-clause-at
returns-in-Some-clause-at g c =
    let opened_at = g.F.Folder.opened_at c.run_in_file.new.folder in
    subst (λ path. OpensAt path c.run_in_file.result.1 opened_at) c.in-Some.ensures.some.1 c.run_in_file.ensures.at

-- ---- a replay in memory

pub returns-in-None-clause-done : goal.returns-in-None-clause-done
returns-in-None-clause-done g c = on_ok-then c.replay_memory.result _ _ c.replay_memory.ensures.done (of_memory _ _ (image_at g.D.Start) c.args.choice.now _ _ _ c.in-None.ensures.none.0 refl)

pub returns-in-None-clause-failed : goal.returns-in-None-clause-failed
returns-in-None-clause-failed g c =
    if_err-join c.replay_memory.result _ _ _ c.replay_memory.ensures.stopped c.replay_memory.ensures.caused
    (λ failure fails caused. fails_in_memory _ _ (image_at g.D.Start) c.args.choice.now failure _ _ _ _ _ _ c.in-None.ensures.none.0 refl (λ kept. (kept.0, kept.1, refl)) fails caused)

pub returns-in-None-clause-left : goal.returns-in-None-clause-left
returns-in-None-clause-left g c = (c.requires.folder, refl)

pub returns-in-None-clause-at : goal.returns-in-None-clause-at
returns-in-None-clause-at g c opened = absurd (opened refl)

pub returns-in-None-clause-unread : goal.returns-in-None-clause-unread
returns-in-None-clause-unread g c reads_none = absurd (true≢false (sym c.in-None.ensures.none.1 ∙ reads_none))
