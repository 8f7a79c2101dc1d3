-- How a run begins, how a call adds an event to it, and what the next opening gives after a crash.
use Rattle.std.proofs.Common.{◌≡◌, ◌⊎◌, Bool, true, false, List, [], ◌∷◌, ◌++◌, refl, sym, ◌∙◌, ap, subst, inl, inr}
use Rattle.std.specs.Prelude.{IsTrue, Some, Result, Ok, Err, ◌||◌, not}
use Rattle.std.proofs.lemmas.Bool.{cases_Bool, true≢false}
use Rattle.std.proofs.lemmas.List.Folds.{list_any-append}
use Rattle.sqlite_trees.specs.declared.store.Store.{Ghosts}
use Rattle.sqlite.specs.Effect.{Database}
use Rattle.sqlite.specs.Held.{Held, state}
use Rattle.sqlite.specs.State.{State, HasCleanDisk}
use Rattle.rbac_sets.specs.declared.command.Command.{Command}
use Rattle.rbac_sets.specs.declared.refusal.Refusal.{Refusal}
use Rattle.rbac_sets.specs.declared.refusal.Refusal.TheVariants.{Memory, Store, Closed}
use Rattle.admin_mgr.specs.RbacState.{RbacState}
use Rattle.admin_mgr.specs.Assignment.{Tally}
use Rattle.admin_mgr.specs.After.{after}
use Rattle.admin_mgr.specs.OfficeRun.{Event, Leaves, OfficeRun, AreSuccessiveRuns, OpensAfter}
use Rattle.admin_mgr.specs.StateNames.{AreNamed}
use Rattle.admin_mgr.specs.Verdict.{verdict}
use Rattle.admin_mgr.specs.declared.plan.Report.{Report}
use Rattle.role_tables.specs.OfficeHistory.{so_far, MayAnswer, LeavesAt, LastIsSound, closes, is_closed_by}
use Rattle.role_tables.specs.Office.{OfficeModel, AnswersCommand, event_of}
use Rattle.role_tables.specs.Runs.{IsInRun, GoesOnBy, RecoversRun, run_of}
use Rattle.role_tables.specs.Durability.{ForgetsNoFault, HoldsWhatWasLeft, HoldsAsBefore, IsDurable, LeavesByEvents}
use Rattle.role_tables.specs.StoredState.{HoldsState}
use Rattle.role_tables.proofs.Events.{plan_refused, leaves_unchanged, leaves_done}
use Rattle.role_tables.proofs.OfficeHistory.Calls.{one_call, closed_stays, open_goes_on, so_far_goes_on, so_far_left}
use Rattle.role_tables.proofs.OfficeHistory.Induction.{event_with}

-- ---- the beginning

-- a connection that commits by itself is in no transaction
pub is_outside : (commits inside : Bool) → commits ≡ not inside → commits ≡ true → inside ≡ false
is_outside commits true is found = absurd (true≢false (sym found ∙ is))
is_outside commits false is found = refl

module _ {S : Type 0} (shown : Held S → State) where
  -- an office that was opened begins a run
  pub begins : (office : OfficeModel S) (start : RbacState) → office.facts ≡ start → office.is_closed ≡ false → AreNamed start → (HasCleanDisk (shown office.conn) → IsDurable (shown office.conn) start) → IsInRun shown start [] office
  begins office start facts works named stored = record {
    possible = (start, refl);
    state = facts;
    closed = works;
    durable = λ clean _. subst (IsDurable (shown office.conn)) (sym facts) (stored clean);
    held = λ clean is_open. subst (HoldsState (shown office.conn).now) (sym facts) (stored clean).held;
    left = λ clean trees may. (start, refl, (stored clean).left trees may);
    names = λ T left. subst AreNamed (sym left) named;
  }

-- ---- one event more

-- the state so far is left by an event
left_so_far : (S : RbacState) (event : Event) → MayAnswer S event → Leaves S (event ∷ []) (so_far S (event ∷ []))
left_so_far S event may = (one_call S event (so_far S (event ∷ []))).1 (may, by event.command event.reply)
  where
    by : (command : Command) (reply : Result Tally Refusal) → LeavesAt S (event_with command reply) (so_far S (event_with command reply ∷ []))
    by command (Ok told) = refl
    by command (Err Store) = inl refl
    by command (Err refusal) = refl

or_none : (b : Bool) → (b || false) ≡ b
or_none true = refl
or_none false = refl

-- the office is closed by the events before the last, or by the last
closed_by_more : (events : List Event) (event : Event) → is_closed_by (events ++ event ∷ []) ≡ (is_closed_by events || closes event)
closed_by_more events event = list_any-append closes events (event ∷ []) ∙ ap (λ b. is_closed_by events || b) (or_none (closes event))

-- what is known of one call of an office
pub record IsCall {S : Type 0} (shown : Held S → State) (old : OfficeModel S) (event : Event) (new : OfficeModel S) : Type 0 where
  pub clean : ForgetsNoFault (shown old.conn) (shown new.conn)
  -- a closed office
  pub stays : old.is_closed ≡ true → (event.reply ≡ Err Closed) × (new ≡ old)
  -- an open one
  pub may : old.is_closed ≡ false → MayAnswer old.facts event
  pub state : old.is_closed ≡ false → new.facts ≡ so_far old.facts (event ∷ [])
  pub closed : old.is_closed ≡ false → new.is_closed ≡ closes event
  pub durable : old.is_closed ≡ false → HasCleanDisk (shown new.conn) → IsDurable (shown old.conn) old.facts → new.is_closed ≡ false → IsDurable (shown new.conn) new.facts
  pub held : old.is_closed ≡ false → HasCleanDisk (shown new.conn) → IsDurable (shown old.conn) old.facts → IsTrue (shown new.conn).is_open → HoldsState (shown new.conn).now new.facts
  pub left : old.is_closed ≡ false → HasCleanDisk (shown new.conn) → IsDurable (shown old.conn) old.facts → LeavesByEvents (shown new.conn) old.facts (event ∷ [])
  pub names : old.is_closed ≡ false → AreNamed old.facts → (T : RbacState) → LeavesAt old.facts event T → AreNamed T

module _ {S : Type 0} (shown : Held S → State) (old : OfficeModel S) (event : Event) (new : OfficeModel S) (call : IsCall shown old event new) (start : RbacState) (events : List Event) (run : IsInRun shown start events old) where
  -- of an open office
  module _ (works : old.is_closed ≡ false) where
    open_so_far : is_closed_by events ≡ false
    open_so_far = sym run.closed ∙ works

    -- what all events may leave, the last event may leave from the state before it
    last_of : (T : RbacState) → Leaves start (events ++ event ∷ []) T → Leaves old.facts (event ∷ []) T
    last_of T left = subst (λ M. Leaves M (event ∷ []) T) (sym run.state) ((open_goes_on start events (event ∷ []) T run.possible open_so_far).0 left)

    with_last : (T : RbacState) → Leaves old.facts (event ∷ []) T → Leaves start (events ++ event ∷ []) T
    with_last T left = (open_goes_on start events (event ∷ []) T run.possible open_so_far).1 (subst (λ M. Leaves M (event ∷ []) T) run.state left)

    goes_on_open : IsInRun shown start (events ++ event ∷ []) new
    goes_on_open = record {
      possible = (so_far old.facts (event ∷ []), with_last (so_far old.facts (event ∷ [])) (left_so_far old.facts event (call.may works)));
      state = call.state works ∙ ap (λ M. so_far M (event ∷ [])) run.state ∙ sym (so_far_goes_on start events (event ∷ []));
      closed = call.closed works ∙ sym (closed_by_more events event ∙ ap (λ b. b || closes event) open_so_far);
      durable = λ clean. call.durable works clean (run.durable (call.clean clean) works);
      held = λ clean. call.held works clean (run.durable (call.clean clean) works);
      left = λ clean trees may. (let (T, left, leaves) = call.left works clean (run.durable (call.clean clean) works) trees may in (T, with_last T left, leaves));
      names = λ T left. call.names works named T ((one_call old.facts event T).0 (last_of T left)).1;
    }
      where
        named : AreNamed old.facts
        named = run.names old.facts (subst (Leaves start events) (sym run.state) (so_far_left start events run.possible))

  -- of a closed one
  module _ (shut : old.is_closed ≡ true) where
    closed_so_far : is_closed_by events ≡ true
    closed_so_far = sym run.closed ∙ shut

    answered : event.reply ≡ Err Closed
    answered = (call.stays shut).0

    stays_left : (T : RbacState) → Leaves start events T → Leaves start (events ++ event ∷ []) T
    stays_left T left = (closed_stays start events event T closed_so_far).1 (left, answered)

    goes_on_closed : IsInRun shown start (events ++ event ∷ []) old
    goes_on_closed = record {
      possible = (run.possible.0, stays_left run.possible.0 run.possible.1);
      state = run.state ∙ sym (so_far_goes_on start events (event ∷ []) ∙ ap (λ (reply : Result Tally Refusal). so_far (so_far start events) (event_with event.command reply ∷ [])) answered);
      closed = shut ∙ sym (closed_by_more events event ∙ ap (λ b. b || closes event) closed_so_far);
      durable = λ clean works. absurd (true≢false (sym shut ∙ works));
      held = run.held;
      left = λ clean trees may. (let (T, left, leaves) = run.left clean trees may in (T, stays_left T left, leaves));
      names = λ T left. run.names T ((closed_stays start events event T closed_so_far).0 left).0;
    }

  goes_on_by : IsInRun shown start (events ++ event ∷ []) new
  goes_on_by = elim (cases_Bool old.is_closed) [
    | inl shut ↦ subst (IsInRun shown start (events ++ event ∷ [])) (sym (call.stays shut).1) (goes_on_closed shut)
    | inr works ↦ goes_on_open works
  ]

-- a call adds one event to whatever run the office is in
pub goes_on : {S : Type 0} (shown : Held S → State) (old : OfficeModel S) (event : Event) (new : OfficeModel S) → IsCall shown old event new → GoesOnBy shown old event new
goes_on shown old event new call start events run = goes_on_by shown old event new call start events run

-- ---- the calls of an office

module _ {S : Type 0} (g : Ghosts S) where
  -- of a closed one
  pub closed_call : (office : OfficeModel S) (command : Command) → office.is_closed ≡ true → IsCall (state g) office (event_of command (Err Closed)) office
  closed_call office command shut = record {
    clean = λ clean. clean;
    stays = λ _. (refl, refl);
    may = λ works. none works;
    state = λ works. none works;
    closed = λ works. none works;
    durable = λ works. none works;
    held = λ works. none works;
    left = λ works. none works;
    names = λ works. none works;
  }
    where
      none : {X : Type 0} → office.is_closed ≡ false → X
      none works = absurd (true≢false (sym shut ∙ works))

  -- a command that was refused
  pub refused_call : (office : OfficeModel S) (command : Command) (refusal : Refusal) → office.is_closed ≡ false → (refusal ≡ Memory) ⊎ (verdict office.facts command ≡ Some refusal)
      → IsCall (state g) office (event_of command (Err refusal)) office
  refused_call office command refusal works cause =
      let known = by refusal (plan_refused office command refusal cause) in
      record {
        clean = λ clean. clean;
        stays = λ shut. absurd (true≢false (sym shut ∙ works));
        may = λ _. known.0;
        state = λ _. refl;
        closed = λ _. works ∙ sym known.1;
        durable = λ _ clean stands _. stands;
        held = λ _ clean stands _. stands.held;
        left = λ _ clean stands. leaves_unchanged g office command refusal cause stands;
        names = λ _ named T left. subst AreNamed (sym (known.2 T left)) named;
      }
    where
      by : (r : Refusal) → AnswersCommand office command (Err r) office
          → MayAnswer office.facts (event_of command (Err r)) × (closes (event_of command (Err r)) ≡ false) × ((T : RbacState) → LeavesAt office.facts (event_of command (Err r)) T → T ≡ office.facts)
      by Memory answers = (tt, refl, λ T is. is)
      by Store answers = absurd (true≢false (sym answers.1 ∙ works))
      by Closed answers = absurd answers
      by _ answers = (answers.0, refl, λ T is. is)

  -- one that was done
  pub done_call : (old new : OfficeModel S) (command : Command) (report : Report) → old.is_closed ≡ false → ForgetsNoFault (state g old.conn) (state g new.conn) → AnswersCommand old command (Ok report) new
      → (HasCleanDisk (state g new.conn) → IsDurable (state g old.conn) old.facts → IsDurable (state g new.conn) (after old.facts command)) → AreNamed new.facts → IsCall (state g) old (event_of command (Ok report)) new
  done_call old new command report works clean answers stands named = record {
    clean = clean;
    stays = λ shut. absurd (true≢false (sym shut ∙ works));
    may = λ _. (answers.0, answers.1);
    state = λ _. answers.2;
    closed = λ _. answers.3;
    durable = λ _ is_clean stood _. subst (IsDurable (state g new.conn)) (sym answers.2) (stands is_clean stood);
    held = λ _ is_clean stood _. subst (HoldsState (state g new.conn).now) (sym answers.2) (stands is_clean stood).held;
    left = λ _ is_clean stood. leaves_done (state g new.conn) old.facts command report answers.0 answers.1 (stands is_clean stood);
    names = λ _ _ T left. subst AreNamed (answers.2 ∙ sym left) named;
  }

  -- one for which the store failed
  pub failed_call : (old new : OfficeModel S) (command : Command) → old.is_closed ≡ false → ForgetsNoFault (state g old.conn) (state g new.conn) → AnswersCommand old command (Err Store) new
      → (HasCleanDisk (state g new.conn) → IsDurable (state g old.conn) old.facts → HoldsAsBefore (state g old.conn) (state g new.conn))
      → (HasCleanDisk (state g new.conn) → IsDurable (state g old.conn) old.facts → LeavesByEvents (state g new.conn) old.facts (event_of command (Err Store) ∷ []))
      → AreNamed (after old.facts command) → IsCall (state g) old (event_of command (Err Store)) new
  failed_call old new command works clean answers undone left named = record {
    clean = clean;
    stays = λ shut. absurd (true≢false (sym shut ∙ works));
    may = λ _. answers.0;
    state = λ _. answers.2;
    closed = λ _. answers.1;
    durable = λ _ is_clean stood is_open. absurd (true≢false (sym answers.1 ∙ is_open));
    held = λ _ is_clean stood is_open. subst (HoldsState (state g new.conn).now) (sym answers.2) (subst (λ (db : Database). HoldsState db old.facts) (sym (undone is_clean stood is_open)) stood.held);
    left = λ _ is_clean stood. left is_clean stood;
    names = λ _ was T leaves. elim leaves [ inl same ↦ subst AreNamed (sym same) was | inr done ↦ subst AreNamed (sym done) named ];
  }

-- ---- after a crash

-- one run more
one_more : (opens : RbacState → Type 0) (before : List OfficeRun) (last next : OfficeRun) → AreSuccessiveRuns opens (before ++ last ∷ []) → OpensAfter last next.start → ((T : RbacState) × Leaves next.start next.events T)
    → AreSuccessiveRuns opens (before ++ last ∷ next ∷ [])
one_more opens [] last next lives found possible = (lives.0, lives.1, (found, possible, tt))
one_more opens (first ∷ before) last next lives found possible = (lives.0, lives.1, one_more (OpensAfter first) before last next lives.2 found possible)

pub recovers_run : {S : Type 0} (shown : Held S → State) (next : State) → HoldsWhatWasLeft next → LastIsSound → RecoversRun shown next
recovers_run shown next finds sound before start events office trees lives run clean may is_open outside same =
    let (T, left, leaves) = run.left clean trees may in
    let good = sound before (run_of start events) T (record { are_runs = lives; is_found = inr (inl left) }) in (
      T,
      finds T trees leaves is_open outside same,
      good.0,
      run.names T left,
      good.1,
      one_more _ before (run_of start events) (run_of T []) lives (inl left) (T, refl),
    )
