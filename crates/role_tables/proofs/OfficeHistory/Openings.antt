-- What an opening gives: a good state, and the state after a prefix of the accepted commands of the run before.
use Rattle.std.proofs.Common.{◌≡◌, Bool, cond, List, [], ◌∷◌, ◌++◌, map, refl, sym, ◌∙◌, ap, subst, inl, inr, arith}
use Rattle.std.specs.Prelude.{◌⊎◌, filter, Option, None, is_none, Result, Ok, Err, All}
use Rattle.std.proofs.lemmas.List.Elements.{All-head, All-tail, Contains-append_right}
use Rattle.rbac_sets.specs.Sets.{Names}
use Rattle.rbac_sets.specs.declared.command.Command.{Command}
use Rattle.rbac_sets.specs.declared.refusal.Refusal.{Refusal}
use Rattle.rbac_sets.specs.declared.refusal.Refusal.TheVariants.{Store}
use Rattle.admin_mgr.specs.RbacState.{RbacState, empty_state}
use Rattle.admin_mgr.specs.Assignment.{Tally}
use Rattle.admin_mgr.specs.After.{after}
use Rattle.admin_mgr.specs.Verdict.{verdict}
use Rattle.admin_mgr.specs.Run.{run, next}
use Rattle.admin_mgr.specs.Good.{IsGood}
use Rattle.admin_mgr.specs.CommandLaws.{VersionStays}
use Rattle.admin_mgr.specs.OfficeRun.{Event, IsClosedReply, Leaves, OfficeRun, OpensAfter, AreSuccessiveRuns, may_have_taken_effect}
use Rattle.role_tables.specs.OfficeHistory.{acknowledged, accepted, MayLose, NeverFalls, IsAfterPrefix, CreatedRunsAreFromGood, OpeningsAreGood, OpeningsFollow, IsReached, LastIsSound}
use Rattle.role_tables.specs.Runs.{run_of}
use Rattle.role_tables.proofs.OfficeHistory.Known.{GoodnessLaws}
use Rattle.role_tables.proofs.OfficeHistory.Induction.{event_with, by_events}
use Rattle.role_tables.proofs.OfficeHistory.Calls.{so_far_left}

-- ---- the state after a prefix

-- a closed office does nothing
closed_does_nothing : (events : List Event) → All IsClosedReply events → (acknowledged events ≡ []) × (accepted events ≡ [])
closed_does_nothing [] closed = (refl, refl)
closed_does_nothing (event ∷ events) closed =
    let is = All-head IsClosedReply event events closed in
    let rest = closed_does_nothing events (All-tail IsClosedReply event events closed) in (
      ap (λ (reply : Result Tally Refusal). acknowledged (event_with event.command reply ∷ events)) is ∙ rest.0,
      ap (λ (reply : Result Tally Refusal). accepted (event_with event.command reply ∷ events)) is ∙ rest.1,
    )

-- an accepted command is the next that `run` does
run_accepted : (S : RbacState) (command : Command) (commands : List Command) → verdict S command ≡ None → run S (command ∷ commands) ≡ run (after S command) commands
unfolding run next
run_accepted S command commands none = ap (λ (v : Option Refusal). run (cond (is_none v) (after S command) S) commands) none

-- what a crash may lose of events, it may lose of more events
lost_of_more : (event : Event) (events : List Event) (lost : List Command) → MayLose events lost → MayLose (event ∷ events) lost
lost_of_more event events [] may = tt
lost_of_more event events (command ∷ commands) may = (Contains-append_right (event ∷ []) events _ may.0, may.1)

prefix_left : VersionStays → (S : RbacState) (events : List Event) (T : RbacState) → Leaves S events T → IsAfterPrefix (run_of S events) T
unfolding run
prefix_left stays = by_events (λ S events T. IsAfterPrefix (run_of S events) T)
    (λ S. record { done = []; lost = []; is_prefix = refl; has_acknowledged = ([], refl); loses_one = tt; state = refl; version = inl refl })
    (λ S T command told events none rest. record {
      done = command ∷ rest.done;
      lost = rest.lost;
      is_prefix = ap (λ (commands : List Command). command ∷ commands) rest.is_prefix;
      has_acknowledged = (rest.has_acknowledged.0, ap (λ (commands : List Command). command ∷ commands) rest.has_acknowledged.1);
      loses_one = lost_of_more (event_with command (Ok told)) events rest.lost rest.loses_one;
      state = ap (λ (M : RbacState). record M { version = T.version }) (run_accepted S command rest.done none) ∙ rest.state;
      version = subst (λ before. NeverFalls before T.version) (stays S command) rest.version;
    })
    (λ S T command refusal events nothing rest. record {
      done = rest.done;
      lost = rest.lost;
      is_prefix = ap (λ (b : Bool). map (λ (event : Event). event.command) (cond b (event_with command (Err refusal) ∷ filter may_have_taken_effect events) (filter may_have_taken_effect events))) nothing ∙ rest.is_prefix;
      has_acknowledged = rest.has_acknowledged;
      loses_one = lost_of_more (event_with command (Err refusal)) events rest.lost rest.loses_one;
      state = rest.state;
      version = rest.version;
    })
    (λ S command events none closed.
    (let nothing = closed_does_nothing events closed in
    let all : accepted (event_with command (Err Store) ∷ events) ≡ command ∷ [] = ap (λ (commands : List Command). command ∷ commands) nothing.1 in (
      record {
        done = [];
        lost = command ∷ [];
        is_prefix = all;
        has_acknowledged = ([], ap (λ (commands : List Command). commands ++ []) (sym nothing.0));
        loses_one = ((0, omega arith, refl), refl);
        state = refl;
        version = inl refl;
      },
      record {
        done = command ∷ [];
        lost = [];
        is_prefix = all;
        has_acknowledged = (command ∷ [], ap (λ (commands : List Command). commands ++ command ∷ []) (sym nothing.0));
        loses_one = tt;
        state = ap (λ (M : RbacState). record M { version = (after S command).version }) (run_accepted S command [] none);
        version = inl (stays S command);
      },
    )))

-- ---- a good state

module _ (laws : GoodnessLaws) where
  good_left : (S : RbacState) (events : List Event) (T : RbacState) → Leaves S events T → IsGood S → IsGood T
  good_left = by_events (λ S events T. IsGood S → IsGood T)
      (λ S good. good)
      (λ S T command told events none rest good. rest (laws.accepted S good command none))
      (λ S T command refusal events nothing rest good. rest good)
      (λ S command events none closed. (λ good. good, λ good. laws.accepted S good command none))

  -- a state that a next opening may give is good
  pub good_opening : (office_run : OfficeRun) → IsGood office_run.start → (T : RbacState) → OpensAfter office_run T → IsGood T
  good_opening office_run good T (inl left) = good_left office_run.start office_run.events T left good
  good_opening office_run good T (inr (M, left, first, taken)) = subst IsGood (sym taken) (laws.migrated M (good_left office_run.start office_run.events M left good) first)

  -- and it is the state after a prefix: a state that is migrated to version 2 had no locks
  prefix_opening : (office_run : OfficeRun) → IsGood office_run.start → (T : RbacState) → OpensAfter office_run T → IsAfterPrefix office_run T
  prefix_opening office_run good T (inl left) = prefix_left laws.version office_run.start office_run.events T left
  prefix_opening office_run good T (inr (M, left, first, taken)) =
      let it = prefix_left laws.version office_run.start office_run.events M left in
      let better = good_left office_run.start office_run.events M left good in
      let second : record M { version = 2 } ≡ T = ap (λ (locks : Names). record M { version = 2; locked = locks }) (better.no_locks first) ∙ sym taken in
      record {
        done = it.done;
        lost = it.lost;
        is_prefix = it.is_prefix;
        has_acknowledged = it.has_acknowledged;
        loses_one = it.loses_one;
        state = ap (λ (X : RbacState). record (run office_run.start it.done) { version = X.version }) taken
            ∙ ap (λ (X : RbacState). record X { version = 2 }) it.state ∙ second;
        version = inr (elim it.version [ inl same ↦ sym same ∙ first | inr rises ↦ rises.0 ], ap (λ (X : RbacState). X.version) taken);
      }

  -- ---- in a list of runs

  -- a run of the list begins with a good state, and the runs after it follow on
  run_at : (opens : RbacState → Type 0) → ((S : RbacState) → opens S → IsGood S) → (before : List OfficeRun) (office_run : OfficeRun) (later : List OfficeRun) →
      AreSuccessiveRuns opens (before ++ office_run ∷ later) → IsGood office_run.start × ((T : RbacState) × Leaves office_run.start office_run.events T) × AreSuccessiveRuns (OpensAfter office_run) later
  run_at opens good [] office_run later follow = (good office_run.start follow.0, follow.1, follow.2)
  run_at opens good (first ∷ before) office_run later follow =
      run_at (OpensAfter first) (good_opening first (good first.start follow.0)) before office_run later follow.2

  first_good : (S : RbacState) → ((S ≡ empty_state 1) ⊎ (S ≡ empty_state 2)) → IsGood S
  first_good S (inl e) = subst IsGood (sym e) (laws.empty 1 (inl refl))
  first_good S (inr e) = subst IsGood (sym e) (laws.empty 2 (inr refl))

  pub created_are_good : CreatedRunsAreFromGood
  created_are_good [] are = are
  created_are_good (first ∷ runs) are = (first_good first.start are.0, are.1, are.2)

  pub openings_are_good : OpeningsAreGood
  openings_are_good before office_run later are = (run_at _ (λ S good. good) before office_run later are).0

  pub openings_follow : OpeningsFollow
  openings_follow before office_run following later are =
      let here = run_at _ (λ S good. good) before office_run (following ∷ later) are in
      prefix_opening office_run here.0 following.start here.2.0

  -- the state so far is one of those that a next opening may give
  pub reached_opens : (before : List OfficeRun) (last : OfficeRun) (T : RbacState) → IsReached before last T → OpensAfter last T
  reached_opens before last T reached = elim reached.is_found [
    | inl now ↦ inl (subst (Leaves last.start last.events) (sym now) (so_far_left last.start last.events (run_at _ (λ S good. good) before last [] reached.are_runs).1))
    | inr opens ↦ opens
  ]

  pub last_is_sound : LastIsSound
  last_is_sound before last T reached =
      let good = (run_at _ (λ S good. good) before last [] reached.are_runs).0 in
      let found = reached_opens before last T reached in
      (good_opening last good T found, prefix_opening last good T found)
