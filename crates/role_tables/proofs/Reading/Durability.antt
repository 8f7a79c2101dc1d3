-- What an opening that changes nothing leaves.
use Rattle.std.proofs.Common.{IsTrue, ◌≡◌, ◌⊎◌, inl, inr, sym, subst, ◌∙◌}
use Rattle.sqlite.specs.Effect.{Database}
use Rattle.sqlite.specs.Tree.{Trees}
use Rattle.sqlite.specs.State.{State, HasCleanDisk, IsUnchanged, KeepsCommit, Survives}
use Rattle.rbac_sets.specs.declared.refusal.Refusal.{Refusal}
use Rattle.rbac_sets.specs.declared.refusal.Refusal.TheVariants.{Memory, Store}
use Rattle.admin_mgr.specs.RbacState.{RbacState}
use Rattle.admin_mgr.specs.Good.{IsGood}
use Rattle.admin_mgr.specs.OfficeRun.{migrated_to_version_2}
use Rattle.admin_mgr.specs.StateNames.{AreNamed}
use Rattle.role_tables.specs.TableContents.{TableContents, contents_of}
use Rattle.role_tables.specs.StoredState.{HoldsState}
use Rattle.role_tables.specs.OpeningChecks.{IsOfVersion2, RefusesContents, IsStateOfContents}
use Rattle.role_tables.specs.Migration.{RefusesMigration}
use Rattle.role_tables.specs.Durability.{IsDurable, LeavesState, LeavesEither, HoldsAsBefore}
use Rattle.role_tables.proofs.Reading.GoodState.{memory_alone, same_state}

pub leaves_still : (old new : State) (S : RbacState) → HasCleanDisk new → Survives old new (λ _. ⊥) → IsDurable old S → (trees : Trees) → new.may_leave trees → LeavesState S trees
leaves_still old new S clean kept stands trees may = elim (kept.crash clean trees may) [ inl before ↦ stands.left trees before | inr none ↦ absurd none ]

pub stays_durable : (old new : State) (S : RbacState) → HasCleanDisk new → Survives old new (λ _. ⊥) → IsUnchanged old new → IsDurable old S → IsDurable new S
stays_durable old new S clean kept same stands = record {
  is_open = same.0.is_open;
  autocommit = same.0.mode ∙ stands.autocommit;
  held = subst (λ (db : Database). HoldsState db S) (sym same.0.now_is) stands.held;
  left = leaves_still old new S clean kept stands;
}

pub opens_the_state : (old : State) (S T : RbacState) → IsGood S → AreNamed S → IsDurable old S → IsStateOfContents (contents_of old.now) T → T ≡ S
opens_the_state old S T good named stands it = same_state old.now S good named stands.held T it

pub refuses_no_more : (old : State) (S : RbacState) (refusal : Refusal) → IsGood S → AreNamed S → IsDurable old S → (refusal ≡ Store) ⊎ RefusesContents (contents_of old.now) refusal → (refusal ≡ Memory) ⊎ (refusal ≡ Store)
refuses_no_more old S refusal good named stands (inl store) = inr store
refuses_no_more old S refusal good named stands (inr bad) = inl (memory_alone old.now S good named stands.held refusal bad)

-- a call that leaves what was committed, on a connection outside a transaction, leaves what it holds
pub kept_as_before : (old new : State) → (IsTrue old.is_open → old.now ≡ old.committed) → (IsTrue new.is_open → new.now ≡ new.committed) → KeepsCommit old new → HoldsAsBefore old new
kept_as_before old new settled_old settled_new kept is_open = settled_new is_open ∙ kept.committed is_open ∙ sym (settled_old (kept.was_open is_open))

-- a crash leaves the state that was durable, or the one that the call was to lead to
pub leaves_either : (old new : State) (S T : RbacState) → IsDurable old S → ((trees : Trees) → new.may_leave trees → old.may_leave trees ⊎ LeavesState T trees) → LeavesEither new S T
leaves_either old new S T stands left trees may = elim (left trees may) [ inl before ↦ inl (stands.left trees before) | inr after ↦ inr after ]

-- a state of version 2 that is found is an office of version 2
pub version_2_found : (found : TableContents) (S : RbacState) → IsStateOfContents found S → S.version ≡ 2 → IsOfVersion2 found
version_2_found found S it two = (it.reached.0, it.reached.1, sym it.state.version_is ∙ two)

-- a migration is refused as an opening is, if no office of version 2 is there
pub refused_as_opening : (found : TableContents) (refusal : Refusal) → (IsOfVersion2 found → ⊥) → (refusal ≡ Store) ⊎ RefusesContents found refusal → RefusesMigration found refusal
refused_as_opening found refusal none (inl store) = inl store
refused_as_opening found refusal none (inr bad) = inr (inr (inr (bad, none)))

-- a crash leaves the state of version 1 that was durable, or the same in version 2, to which the call was to lead
pub leaves_either_version : (old new : State) (S : RbacState) → S.version ≡ 1 → IsDurable old S → ((trees : Trees) → new.may_leave trees → old.may_leave trees ⊎ LeavesState (migrated_to_version_2 S) trees)
    → (trees : Trees) → new.may_leave trees → LeavesState S trees ⊎ ((S.version ≡ 1) × LeavesState (migrated_to_version_2 S) trees)
leaves_either_version old new S one stands left trees may = elim (left trees may) [ inl before ↦ inl (stands.left trees before) | inr after ↦ inr (one, after) ]
