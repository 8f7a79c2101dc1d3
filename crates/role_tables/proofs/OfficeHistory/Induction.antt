-- Induction over the events that are possible from a state on.
use Rattle.std.proofs.Common.{◌≡◌, false, List, [], ◌∷◌, refl, sym, subst, inl, inr}
use Rattle.std.specs.Prelude.{None, Result, Ok, Err, All}
use Rattle.rbac_sets.specs.declared.command.Command.{Command}
use Rattle.rbac_sets.specs.declared.refusal.Refusal.{Refusal}
use Rattle.rbac_sets.specs.declared.refusal.Refusal.TheVariants.{Memory, Store, Closed}
use Rattle.admin_mgr.specs.RbacState.{RbacState}
use Rattle.admin_mgr.specs.Assignment.{Tally}
use Rattle.admin_mgr.specs.After.{after}
use Rattle.admin_mgr.specs.Verdict.{verdict}
use Rattle.admin_mgr.specs.OfficeRun.{Event, IsClosedReply, Leaves, may_have_taken_effect}

-- the event of a command and its reply
abbrev pub event_with : Command → Result Tally Refusal → Event
event_with command reply = record { command = command; reply = reply }

-- A fact P of a state, events and a state that they may leave holds if it holds for a crash with no event, and each further event
-- keeps it: one that was answered Ok, one that did nothing, and one that was answered Store, after which nothing is done.
pub by_events : (P : RbacState → List Event → RbacState → Type 0)
    → ((S : RbacState) → P S [] S)
    → ((S T : RbacState) (command : Command) (told : Tally) (events : List Event) → verdict S command ≡ None → P (after S command) events T → P S (event_with command (Ok told) ∷ events) T)
    → ((S T : RbacState) (command : Command) (refusal : Refusal) (events : List Event) → may_have_taken_effect (event_with command (Err refusal)) ≡ false → P S events T → P S (event_with command (Err refusal) ∷ events) T)
    → ((S : RbacState) (command : Command) (events : List Event) → verdict S command ≡ None → All IsClosedReply events →
    P S (event_with command (Err Store) ∷ events) S × P S (event_with command (Err Store) ∷ events) (after S command))
    → (S : RbacState) (events : List Event) (T : RbacState) → Leaves S events T → P S events T
by_events P stops done refused unsure S [] T left = subst (P S []) (sym left) (stops S)
by_events P stops done refused unsure S (event ∷ events) T left =
    step event.command event.reply (λ M. by_events P stops done refused unsure M events T) left
  where
    step : (command : Command) (reply : Result Tally Refusal) → ((M : RbacState) → Leaves M events T → P M events T) →
        Leaves S (event_with command reply ∷ events) T → P S (event_with command reply ∷ events) T
    step command (Ok told) rest left = done S T command told events left.0 (rest (after S command) left.2)
    step command (Err Memory) rest left = refused S T command Memory events refl (rest S left)
    step command (Err Store) rest left =
        let both = unsure S command events left.0 left.1 in
        elim left.2 [
          | inl nothing ↦ subst (P S (event_with command (Err Store) ∷ events)) (sym nothing) both.0
          | inr all ↦ subst (P S (event_with command (Err Store) ∷ events)) (sym all) both.1
        ]
    step command (Err Closed) rest left = absurd left
    step command (Err refusal) rest left = refused S T command refusal events refl (rest S left.1)
