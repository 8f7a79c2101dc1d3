use Rattle.std.proofs.Common.{◌≡◌, List, [], ◌++◌, map, sym, ◌∙◌, ap, not}
use Rattle.std.specs.Prelude.{filter}
use Rattle.std.specs.List.{flat_map}
use Rattle.std.proofs.lemmas.List.{append-nil}
use Rattle.rbac_sets.specs.Sets.{Pair, members, same_name}
use Rattle.rbac_sets.specs.declared.row.Change.{Change}
use Rattle.chunked_sets.specs.Entries.{entries_left}
use Rattle.admin_mgr.specs.RbacState.{RbacState}
use Rattle.admin_mgr.specs.private.SessionContinuation.{stays}
use Rattle.admin_mgr.specs.private.PlanChanges.{session_rows}
use Rattle.admin_mgr.specs.declared.planning.ending.Loss.{Loss}
use Rattle.admin_mgr.proofs.PlanRows.TurnedRuns.{filter_fails, filter_implied, pairs_by_second}
use Rattle.admin_mgr.proofs.planning.ending.take_ended_of_user.Goals as goal

-- the rows of the sessions, given as pairs (user, session), that don't go on
abbrev ended : RbacState → Loss → List Pair → List Change
ended S loss pairs = flat_map (session_rows S) (filter (λ (session : Pair). not (stays S loss session)) (map (λ (pair : Pair). (pair.1, pair.0)) pairs))

pub loop-pair-init : goal.loop-pair-init
loop-pair-init c =
    ap (λ pairs. c.args.changes.now.items ++ ended c.args.state.now.facts c.args.loss pairs)
    (ap entries_left c.into_iter-pair-iterator.ensures.into_iter_gives ∙ c.iter-pair-items.ensures ∙ c.with_first.ensures
    ∙ ap (λ s. filter (λ (pair : Pair). same_name pair.0 c.args.user.now) (members s)) c.sessions_by_user.ensures)

pub loop-pair-preserved : goal.loop-pair-preserved
loop-pair-preserved c =
    let S = c.args.state.now.facts in
    let pair = c.in-Some.pair.now in
    let stays_on = ap not (sym c.goes_on.ensures ∙ c.if-not-goes_on.false) in
    ap (λ rows. c.loop-pair.changes.items ++ rows)
    (sym (ap (ended S c.args.loss) c.in-Some.ensures.steps
    ∙ ap (flat_map (session_rows S)) (filter_fails (λ (session : Pair). not (stays S c.args.loss session)) (pair.1, pair.0) _ stays_on)))
    ∙ c.loop-pair.invariant

pub returns-clause-ok : goal.returns-clause-ok
returns-clause-ok c =
    let S = c.args.state.now.facts in
    let goes : Pair → _ = λ session. not (stays S c.args.loss session) in
    sym (append-nil c.loop-pair.changes.items) ∙ ap (λ pairs. c.loop-pair.changes.items ++ ended S c.args.loss pairs) (sym c.in-None.ensures.steps.0) ∙ c.loop-pair.invariant
    ∙ ap (λ sessions. c.args.changes.now.items ++ flat_map (session_rows S) (filter goes sessions)) (pairs_by_second S.sessions c.args.user.now)
    ∙ ap (λ sessions. c.args.changes.now.items ++ flat_map (session_rows S) sessions)
    (filter_implied goes (λ (session : Pair). same_name session.1 c.args.user.now) (λ session other. ap not (c.requires.others session other)) (members S.sessions))
