-- What was removed in force stays removed, over events and over runs.
use Rattle.std.proofs.Common.{◌≡◌, Bool, false, List, [], ◌∷◌, ◌++◌, refl, sym, ap, subst, inl, inr}
use Rattle.std.specs.Prelude.{◌⊎◌, ◌&&◌, Ok, Err, All}
use Rattle.std.proofs.lemmas.List.Elements.{All-head, All-tail}
use Rattle.rbac_sets.specs.declared.command.Command.{Command}
use Rattle.rbac_sets.specs.declared.refusal.Refusal.{Refusal}
use Rattle.rbac_sets.specs.declared.refusal.Refusal.TheVariants.{Store, Closed}
use Rattle.admin_mgr.specs.RbacState.{RbacState}
use Rattle.admin_mgr.specs.Assignment.{Tally}
use Rattle.admin_mgr.specs.After.{after}
use Rattle.admin_mgr.specs.OfficeRun.{Event, IsClosedReply, Leaves, OfficeRun, OpensAfter, AreSuccessiveRuns, migrated_to_version_2, may_have_taken_effect, events_of}
use Rattle.role_tables.proofs.OfficeHistory.Lists.{All-parts}
use Rattle.role_tables.proofs.OfficeHistory.Induction.{event_with, by_events}

-- `IsAway` says that something is not in a state. The command `takes` removes it, only commands that pass `gives` may add it, and
-- a migration to version 2 doesn't add it.
module _ (IsAway : RbacState → Type 0) (gives : Command → Bool) (takes : Command)
    (stays : (S : RbacState) (command : Command) → gives command ≡ false → IsAway S → IsAway (after S command))
    (taken : (S : RbacState) → IsAway (after S takes))
    (migrated : (S : RbacState) → IsAway S → IsAway (migrated_to_version_2 S)) where
  -- the event can't have added it
  abbrev IsQuiet : Event → Type 0
  IsQuiet event = (may_have_taken_effect event && gives event.command) ≡ false

  -- one of the events removed it, and none after that can have added it
  abbrev IsTaken : List Event → Type 0
  IsTaken [] = ⊥
  IsTaken (event ∷ events) = (((told : Tally) × (event ≡ event_with takes (Ok told))) × All IsQuiet events) ⊎ IsTaken events

  taken_at : (before : List Event) (told : Tally) (later : List Event) → All IsQuiet later → IsTaken (before ++ event_with takes (Ok told) ∷ later)
  taken_at [] told later quiet = inl ((told, refl), quiet)
  taken_at (event ∷ before) told later quiet = inr (taken_at before told later quiet)

  -- it is away after the events: one of them removed it, or it was away and none can have added it
  abbrev IsKept : Type 0 → List Event → Type 0
  IsKept Before events = IsTaken events ⊎ (All IsQuiet events × Before)

  -- ---- over events

  never_closed : (events : List Event) → All IsClosedReply events → IsTaken events → ⊥
  never_closed [] closed away = away
  never_closed (event ∷ events) closed (inl one) =
      is_ok (All-head IsClosedReply event events closed) (ap (λ (e : Event). e.reply) one.0.1)
    where
      is_ok : event.reply ≡ Err Closed → event.reply ≡ Ok one.0.0 → ⊥
      is_ok refused done = cc
  never_closed (event ∷ events) closed (inr rest) = never_closed events (All-tail IsClosedReply event events closed) rest

  not_refused : (command : Command) (refusal : Refusal) (told : Tally) → event_with command (Err refusal) ≡ event_with takes (Ok told) → ⊥
  not_refused command refusal told e = other (ap (λ (event : Event). event.reply) e)
    where
      other : Err refusal ≡ Ok told → ⊥
      other same = cc

  -- if the store failed, it was away before
  away_before : (S : RbacState) (command : Command) (events : List Event) → All IsClosedReply events → IsKept (IsAway S) (event_with command (Err Store) ∷ events) →
      (gives command ≡ false) × IsAway S
  away_before S command events closed (inl (inl one)) = absurd (not_refused command Store one.0.0 one.0.1)
  away_before S command events closed (inl (inr rest)) = absurd (never_closed events closed rest)
  away_before S command events closed (inr (quiet, away)) = (All-head IsQuiet (event_with command (Err Store)) events quiet, away)

  away_left : (S : RbacState) (events : List Event) (T : RbacState) → Leaves S events T → IsKept (IsAway S) events → IsAway T
  away_left = by_events (λ S events T. IsKept (IsAway S) events → IsAway T)
      (λ S kept. elim kept [ inl none ↦ absurd none | inr both ↦ both.1 ])
      (λ S T command told events none rest kept. elim kept [
        | inl (inl one) ↦ rest (inr (one.1, subst (λ (c : Command). IsAway (after S c)) (sym (ap (λ (event : Event). event.command) one.0.1)) (taken S)))
        | inl (inr later) ↦ rest (inl later)
        | inr both ↦ rest (inr (
          All-tail IsQuiet (event_with command (Ok told)) events both.0,
          stays S command (All-head IsQuiet (event_with command (Ok told)) events both.0) both.1,
        ))
      ])
      (λ S T command refusal events nothing rest kept. elim kept [
        | inl (inl one) ↦ absurd (not_refused command refusal one.0.0 one.0.1)
        | inl (inr later) ↦ rest (inl later)
        | inr both ↦ rest (inr (All-tail IsQuiet (event_with command (Err refusal)) events both.0, both.1))
      ])
      (λ S command events none closed. (
        λ kept. (away_before S command events closed kept).1,
        λ kept. (let before = away_before S command events closed kept in stays S command before.0 before.1),
      ))

  away_opening : (office_run : OfficeRun) (T : RbacState) → OpensAfter office_run T → IsKept (IsAway office_run.start) office_run.events → IsAway T
  away_opening office_run T (inl left) kept = away_left office_run.start office_run.events T left kept
  away_opening office_run T (inr (M, left, first, second)) kept = subst IsAway (sym second) (migrated M (away_left office_run.start office_run.events M left kept))

  -- ---- over runs

  taken_parts : (xs ys : List Event) → IsTaken (xs ++ ys) → IsTaken ys ⊎ (All IsQuiet ys × IsTaken xs)
  taken_parts [] ys away = inl away
  taken_parts (x ∷ xs) ys (inl one) = let parts = All-parts IsQuiet xs ys one.1 in inr (parts.1, inl (one.0, parts.0))
  taken_parts (x ∷ xs) ys (inr rest) = elim (taken_parts xs ys rest) [ inl later ↦ inl later | inr both ↦ inr (both.0, inr both.1) ]

  -- the later events removed it, or none of them can have added it and it is away after the earlier ones
  kept_parts : (Before : Type 0) (xs ys : List Event) → IsKept Before (xs ++ ys) → IsTaken ys ⊎ (All IsQuiet ys × IsKept Before xs)
  kept_parts Before xs ys (inl away) = elim (taken_parts xs ys away) [ inl later ↦ inl later | inr both ↦ inr (both.0, inl both.1) ]
  kept_parts Before xs ys (inr (quiet, before)) = let parts = All-parts IsQuiet xs ys quiet in inr (parts.1, inr (parts.0, before))

  away_behind : (opens : RbacState → Type 0) (before : List OfficeRun) (last : OfficeRun) (T : RbacState) →
      AreSuccessiveRuns opens (before ++ last ∷ []) → OpensAfter last T → IsKept ((S : RbacState) → opens S → IsAway S) (events_of (before ++ last ∷ [])) → IsAway T
  away_behind opens [] last T follow found kept = elim (kept_parts ((S : RbacState) → opens S → IsAway S) last.events [] kept) [
    | inl none ↦ absurd none
    | inr (quiet, here) ↦ away_opening last T found (elim here [ inl away ↦ inl away | inr both ↦ inr (both.0, both.1 last.start follow.0) ])
  ]
  away_behind opens (office_run ∷ before) last T follow found kept =
      away_behind (OpensAfter office_run) before last T follow.2 found (elim (kept_parts ((S : RbacState) → opens S → IsAway S) office_run.events (events_of (before ++ last ∷ [])) kept) [
        | inl later ↦ inl later
        | inr (quiet, here) ↦ inr (quiet, λ S opens_with. away_opening office_run S opens_with (elim here [ inl away ↦ inl away | inr both ↦ inr (both.0, both.1 office_run.start follow.0) ]))
      ])

  -- it is away if it was removed in force
  pub away_in_force : (opens : RbacState → Type 0) (before : List OfficeRun) (last : OfficeRun) (T : RbacState) → AreSuccessiveRuns opens (before ++ last ∷ []) → OpensAfter last T →
      ((earlier : List Event) × (told : Tally) × (later : List Event) × (events_of (before ++ last ∷ []) ≡ earlier ++ event_with takes (Ok told) ∷ later) × All IsQuiet later) → IsAway T
  away_in_force opens before last T follow found (earlier, told, later, are, quiet) =
      away_behind opens before last T follow found (inl (subst IsTaken (sym are) (taken_at earlier told later quiet)))
