-- How one call, and one after another, leads from state to state.
use Rattle.std.proofs.Common.{◌≡◌, true, false, List, [], ◌∷◌, ◌++◌, refl, sym, ◌∙◌, ap, inl}
use Rattle.std.specs.Prelude.{◌↔◌, if◌then◌else◌, is_ok, Result, Ok, Err, All}
use Rattle.std.proofs.lemmas.Bool.{true≢false}
use Rattle.std.proofs.lemmas.List.Elements.{All-head, All-tail, All-nil, All-push}
use Rattle.rbac_sets.specs.declared.command.Command.{Command}
use Rattle.rbac_sets.specs.declared.refusal.Refusal.{Refusal}
use Rattle.rbac_sets.specs.declared.refusal.Refusal.TheVariants.{Memory, Store, Closed}
use Rattle.admin_mgr.specs.RbacState.{RbacState}
use Rattle.admin_mgr.specs.Assignment.{Tally}
use Rattle.admin_mgr.specs.After.{after}
use Rattle.admin_mgr.specs.OfficeRun.{Event, IsClosedReply, Leaves}
use Rattle.role_tables.specs.OfficeHistory.{so_far, MayAnswer, LeavesAt, OneCall, ArePossible, EarlierArePossible, is_closed_by, SoFarIsLeft, OpenLeavesSoFar, OpenGoesOn, ClosedStays, SoFarGoesOn}
use Rattle.role_tables.proofs.OfficeHistory.Lists.{All-parts}
use Rattle.role_tables.proofs.OfficeHistory.Induction.{event_with}

-- ---- one call

pub one_call : OneCall
one_call S event T = by event.command event.reply
  where
    by : (command : Command) (reply : Result Tally Refusal) →
        Leaves S (event_with command reply ∷ []) T ↔ (MayAnswer S (event_with command reply) × LeavesAt S (event_with command reply) T)
    by command (Ok told) = (λ left. ((left.0, left.1), left.2), λ may. (may.0.0, may.0.1, may.1))
    by command (Err Memory) = (λ left. (tt, left), λ may. may.1)
    by command (Err Store) = (λ left. (left.0, left.2), λ may. (may.0, All-nil IsClosedReply, may.1))
    by command (Err Closed) = (λ left. absurd left, λ may. absurd may.0)
    by command (Err refusal) = (λ left. left, λ may. may)

-- ---- the earlier events

pub earlier_are_possible : EarlierArePossible
earlier_are_possible S [] later possible = (S, refl)
earlier_are_possible S (event ∷ earlier) later (T, left) = by event.command event.reply (λ M possible. earlier_are_possible M earlier later possible) left
  where
    by : (command : Command) (reply : Result Tally Refusal) → ((M : RbacState) → ArePossible M (earlier ++ later) → ArePossible M earlier) →
        Leaves S (event_with command reply ∷ (earlier ++ later)) T → ArePossible S (event_with command reply ∷ earlier)
    by command (Ok told) rest left = let one = rest (after S command) (T, left.2) in (one.0, (left.0, left.1, one.1))
    by command (Err Memory) rest left = rest S (T, left)
    by command (Err Store) rest left = (S, (left.0, (All-parts IsClosedReply earlier later left.1).0, inl refl))
    by command (Err Closed) rest left = absurd left
    by command (Err refusal) rest left = let one = rest S (T, left.1) in (one.0, (left.0, one.1))

-- ---- the state so far

-- a closed office does nothing
closed_stays_so_far : (S : RbacState) (events : List Event) → All IsClosedReply events → so_far S events ≡ S
closed_stays_so_far S [] closed = refl
closed_stays_so_far S (event ∷ events) closed =
    ap (λ (reply : Result Tally Refusal). so_far S (event_with event.command reply ∷ events)) (All-head IsClosedReply event events closed)
    ∙ closed_stays_so_far S events (All-tail IsClosedReply event events closed)

pub so_far_left : SoFarIsLeft
so_far_left S [] possible = refl
so_far_left S (event ∷ events) possible = by event.command event.reply (λ M. so_far_left M events) possible.0 possible.1
  where
    by : (command : Command) (reply : Result Tally Refusal) → ((M : RbacState) → ArePossible M events → Leaves M events (so_far M events)) →
        (T : RbacState) → Leaves S (event_with command reply ∷ events) T → Leaves S (event_with command reply ∷ events) (so_far S (event_with command reply ∷ events))
    by command (Ok told) rest T left = (left.0, left.1, rest (after S command) (T, left.2))
    by command (Err Memory) rest T left = rest S (T, left)
    by command (Err Store) rest T left = (left.0, left.1, inl (closed_stays_so_far S events left.1))
    by command (Err Closed) rest T left = absurd left
    by command (Err refusal) rest T left = (left.0, rest S (T, left.1))

pub open_leaves : OpenLeavesSoFar
open_leaves S [] T working left = left
open_leaves S (event ∷ events) T working left = by event.command event.reply (λ M. open_leaves M events T) working left
  where
    by : (command : Command) (reply : Result Tally Refusal) → ((M : RbacState) → is_closed_by events ≡ false → Leaves M events T → T ≡ so_far M events) →
        is_closed_by (event_with command reply ∷ events) ≡ false → Leaves S (event_with command reply ∷ events) T → T ≡ so_far S (event_with command reply ∷ events)
    by command (Ok told) rest working left = rest (after S command) working left.2
    by command (Err Memory) rest working left = rest S working left
    by command (Err Store) rest working left = absurd (true≢false working)
    by command (Err Closed) rest working left = absurd left
    by command (Err refusal) rest working left = rest S working left.1

pub so_far_goes_on : SoFarGoesOn
so_far_goes_on S [] later = refl
so_far_goes_on S (event ∷ events) later = so_far_goes_on (if is_ok event.reply then after S event.command else S) events later

-- ---- one call after another

pub open_goes_on : OpenGoesOn
open_goes_on S [] later T possible working = (λ left. left, λ left. left)
open_goes_on S (event ∷ events) later T possible working = by event.command event.reply (λ M. open_goes_on M events later T) possible.0 possible.1 working
  where
    by : (command : Command) (reply : Result Tally Refusal) →
        ((M : RbacState) → ArePossible M events → is_closed_by events ≡ false → Leaves M (events ++ later) T ↔ Leaves (so_far M events) later T) →
        (M : RbacState) → Leaves S (event_with command reply ∷ events) M → is_closed_by (event_with command reply ∷ events) ≡ false →
        Leaves S (event_with command reply ∷ (events ++ later)) T ↔ Leaves (so_far S (event_with command reply ∷ events)) later T
    by command (Ok told) rest M left working =
        let more = rest (after S command) (M, left.2) working in
        (λ all. more.0 all.2, λ one. (left.0, left.1, more.1 one))
    by command (Err Memory) rest M left working = rest S (M, left) working
    by command (Err Store) rest M left working = absurd (true≢false working)
    by command (Err Closed) rest M left working = absurd left
    by command (Err refusal) rest M left working =
        let more = rest S (M, left.1) working in
        (λ all. more.0 all.1, λ one. (left.0, more.1 one))

-- ---- a closed office

pub closed_stays : ClosedStays
closed_stays S [] event T closed = absurd (true≢false (sym closed))
closed_stays S (first ∷ events) event T closed = by first.command first.reply (λ M. closed_stays M events event T) closed
  where
    by : (command : Command) (reply : Result Tally Refusal) →
        ((M : RbacState) → is_closed_by events ≡ true → Leaves M (events ++ event ∷ []) T ↔ (Leaves M events T × IsClosedReply event)) →
        is_closed_by (event_with command reply ∷ events) ≡ true →
        Leaves S (event_with command reply ∷ (events ++ event ∷ [])) T ↔ (Leaves S (event_with command reply ∷ events) T × IsClosedReply event)
    by command (Ok told) rest closed =
        let more = rest (after S command) closed in (
          λ all. (let both = more.0 all.2 in ((all.0, all.1, both.0), both.1)),
          λ both. (both.0.0, both.0.1, more.1 (both.0.2, both.1)),
        )
    by command (Err Memory) rest closed = rest S closed
    by command (Err Store) rest closed = (
      λ all. (let parts = All-parts IsClosedReply events (event ∷ []) all.1 in ((all.0, parts.0, all.2), All-head IsClosedReply event [] parts.1)),
      λ both. (both.0.0, All-push IsClosedReply events event both.0.1 both.1, both.0.2),
    )
    by command (Err Closed) rest closed = (λ all. absurd all, λ both. absurd both.0)
    by command (Err refusal) rest closed =
        let more = rest S closed in (
          λ all. (let both = more.0 all.1 in ((all.0, both.0), both.1)),
          λ both. (both.0.0, more.1 (both.0.1, both.1)),
        )
