-- The state after a command on separation of duty sets of one kind: no session ends, and which set is violated then.
use Rattle.std.proofs.Common.{◌≡◌, ℕ, false, cond, refl, ◌∙◌, ap}
use Rattle.std.specs.Prelude.{IsTrue, Some, None}
use Rattle.std.specs.Option.{option_map}
use Rattle.rbac_sets.specs.Sets.{Bytes, name_cmp, contains, insert}
use Rattle.rbac_sets.specs.SortedSet.{Stored, set_of}
use Rattle.admin_mgr.specs.declared.separation_of_duty.SeparationOfDuty.{SeparationOfDuty}
use Rattle.admin_mgr.specs.declared.separation_of_duty.SeparationOfDuty.TheVariants.{Static, Dynamic}
use Rattle.admin_mgr.specs.RbacState.{RbacState, Separation, members_of, has_set}
use Rattle.admin_mgr.specs.Authorization.{authorized_users}
use Rattle.admin_mgr.specs.Separation.{is_kept_statically, is_kept_dynamically, least_violated}
use Rattle.admin_mgr.specs.private.SeparationOfDuty.{sets_of, with_sets, is_kept, refusal_of, violates, create_set, add_member, delete_member, set_cardinality, delete_set}
use Rattle.admin_mgr.specs.Assignment.{may_go_on, end_sessions}
use Rattle.admin_mgr.specs.After.{changed, after, with_set, with_member, without_member, with_cardinality, without_set}
use Rattle.admin_mgr.specs.Good.{IsGood, IsSeparation}
use Rattle.admin_mgr.proofs.Verdicts.SeparationLaws.{kept_statically, kept_dynamically}
use Rattle.admin_mgr.proofs.StateAfter.SessionLaws.{goes_on, none_ends_where}
use Rattle.admin_mgr.proofs.Verdicts.VerdictLaws.{mapped_cond}
use Rattle.admin_mgr.proofs.Verdicts.ViolationLaws.{AreKept, created, member_added, renumbered}

-- no set of a good state is violated
pub kept_sets : (duty : SeparationOfDuty) (S : RbacState) → IsGood S → AreKept (is_kept duty S) (sets_of duty S)
kept_sets Static S good x there = (kept_statically S (members_of S.ssd x.0) x.1).1 (λ user _. good.static_separation x.0 user x.1 there)
kept_sets Dynamic S good x there = (kept_dynamically S (members_of S.dsd x.0) x.1).1 (λ session user owner. good.dynamic_separation x.0 session user x.1 there owner)

-- and its sets are well formed
pub formed_sets : (duty : SeparationOfDuty) (S : RbacState) → IsGood S → IsSeparation S.roles (sets_of duty S)
formed_sets Static S good = good.well_formed.ssd
formed_sets Dynamic S good = good.well_formed.dsd

-- no session ends if the sets are replaced
none_ends : (duty : SeparationOfDuty) (S : RbacState) → IsGood S → (other : Separation) → end_sessions (with_sets duty S other) ≡ with_sets duty S other
unfolding may_go_on authorized_users
none_ends Static S good other = none_ends_where (record S { ssd = other }) (goes_on S good) good.well_formed.owned
none_ends Dynamic S good other = none_ends_where (record S { dsd = other }) (goes_on S good) good.well_formed.owned

-- which of other sets is violated depends on the users and sessions of the state
violates_other : (duty : SeparationOfDuty) (S : RbacState) (other : Separation) → violates duty (with_sets duty S other) ≡ option_map (refusal_of duty) (least_violated (is_kept duty S) other)
unfolding is_kept_statically is_kept_dynamically authorized_users
violates_other Static S other = refl
violates_other Dynamic S other = refl

module _ (duty : SeparationOfDuty) (S : RbacState) (good : IsGood S) (name : Bytes) where
  -- ---- the state after each command

  pub after_create_set : (roles : Stored Bytes) (n : ℕ) → after S (create_set duty name roles n) ≡ with_sets duty S (with_set (sets_of duty S) name (set_of name_cmp roles) n)
  unfolding after changed
  after_create_set roles n = ap end_sessions (to duty) ∙ none_ends duty S good _
    where
      to : (kind : SeparationOfDuty) → changed S (create_set kind name roles n) ≡ with_sets kind S (with_set (sets_of kind S) name (set_of name_cmp roles) n)
      to Static = refl
      to Dynamic = refl

  pub after_add_member : (role : Bytes) → after S (add_member duty name role) ≡ with_sets duty S (with_member (sets_of duty S) name role)
  unfolding after changed
  after_add_member role = ap end_sessions (to duty) ∙ none_ends duty S good _
    where
      to : (kind : SeparationOfDuty) → changed S (add_member kind name role) ≡ with_sets kind S (with_member (sets_of kind S) name role)
      to Static = refl
      to Dynamic = refl

  pub after_delete_member : (role : Bytes) → after S (delete_member duty name role) ≡ with_sets duty S (without_member (sets_of duty S) name role)
  unfolding after changed
  after_delete_member role = ap end_sessions (to duty) ∙ none_ends duty S good _
    where
      to : (kind : SeparationOfDuty) → changed S (delete_member kind name role) ≡ with_sets kind S (without_member (sets_of kind S) name role)
      to Static = refl
      to Dynamic = refl

  pub after_set_cardinality : (n : ℕ) → after S (set_cardinality duty name n) ≡ with_sets duty S (with_cardinality (sets_of duty S) name n)
  unfolding after changed
  after_set_cardinality n = ap end_sessions (to duty) ∙ none_ends duty S good _
    where
      to : (kind : SeparationOfDuty) → changed S (set_cardinality kind name n) ≡ with_sets kind S (with_cardinality (sets_of kind S) name n)
      to Static = refl
      to Dynamic = refl

  pub after_delete_set : after S (delete_set duty name) ≡ with_sets duty S (without_set (sets_of duty S) name)
  unfolding after changed
  after_delete_set = ap end_sessions (to duty) ∙ none_ends duty S good _
    where
      to : (kind : SeparationOfDuty) → changed S (delete_set kind name) ≡ with_sets kind S (without_set (sets_of kind S) name)
      to Static = refl
      to Dynamic = refl

  -- ---- the set that is violated then

  pub create_set_violates : (roles : Stored Bytes) (n : ℕ) → has_set (sets_of duty S) name ≡ false →
      violates duty (after S (create_set duty name roles n)) ≡ cond (is_kept duty S (set_of name_cmp roles) n) None (Some (refusal_of duty name))
  create_set_violates roles n absent =
      ap (violates duty) (after_create_set roles n)
      ∙ violates_other duty S (with_set (sets_of duty S) name (set_of name_cmp roles) n)
      ∙ ap (option_map (refusal_of duty)) (created (is_kept duty S) S.roles (sets_of duty S) (formed_sets duty S good) (kept_sets duty S good) name (set_of name_cmp roles) n absent)
      ∙ mapped_cond (is_kept duty S (set_of name_cmp roles) n) (refusal_of duty) name

  pub add_member_violates : (role : Bytes) (n : ℕ) → IsTrue (contains (sets_of duty S).cardinalities (name, n)) →
      violates duty (after S (add_member duty name role)) ≡ cond (is_kept duty S (insert (members_of (sets_of duty S) name) role) n) None (Some (refusal_of duty name))
  add_member_violates role n there =
      ap (violates duty) (after_add_member role)
      ∙ violates_other duty S (with_member (sets_of duty S) name role)
      ∙ ap (option_map (refusal_of duty)) (member_added (is_kept duty S) S.roles (sets_of duty S) (formed_sets duty S good) (kept_sets duty S good) name role n there)
      ∙ mapped_cond (is_kept duty S (insert (members_of (sets_of duty S) name) role) n) (refusal_of duty) name

  pub set_cardinality_violates : (n : ℕ) →
      violates duty (after S (set_cardinality duty name n)) ≡ cond (is_kept duty S (members_of (sets_of duty S) name) n) None (Some (refusal_of duty name))
  set_cardinality_violates n =
      ap (violates duty) (after_set_cardinality n)
      ∙ violates_other duty S (with_cardinality (sets_of duty S) name n)
      ∙ ap (option_map (refusal_of duty)) (renumbered (is_kept duty S) (sets_of duty S) (kept_sets duty S good) name n)
      ∙ mapped_cond (is_kept duty S (members_of (sets_of duty S) name) n) (refusal_of duty) name
