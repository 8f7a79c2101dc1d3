-- What the commands on separation of duty sets refuse, and that the state after an accepted one is good.
use Rattle.std.proofs.Common.{◌≡◌, ℕ, true, [], ◌∷◌, ◌++◌, refl, sym, ◌∙◌, ap, subst, arith}
use Rattle.std.specs.Prelude.{Some, None}
use Rattle.rbac_sets.specs.Sets.{Bytes, name_cmp}
use Rattle.rbac_sets.specs.SortedSet.{Stored, set_of}
use Rattle.rbac_sets.specs.declared.kind.Kind.TheVariants.{SsdSet, DsdSet}
use Rattle.rbac_sets.specs.declared.refusal.Refusal.TheVariants.{NoSet, StaticSeparation, DynamicSeparation}
use Rattle.admin_mgr.specs.declared.separation_of_duty.SeparationOfDuty.{SeparationOfDuty}
use Rattle.admin_mgr.specs.declared.separation_of_duty.SeparationOfDuty.TheVariants.{Static, Dynamic}
use Rattle.admin_mgr.specs.RbacState.{RbacState, Separation, members_of, has_set, cardinality_of}
use Rattle.admin_mgr.specs.Authorization.{authorized_users, is_authorized, is_session_role}
use Rattle.admin_mgr.specs.Separation.{static_violation, dynamic_violation}
use Rattle.admin_mgr.specs.private.SeparationOfDuty.{sets_of, with_sets, kind_of, violates, create_set, add_member, delete_member, set_cardinality, delete_set}
use Rattle.admin_mgr.specs.Refusals.{first, refuse_unless}
use Rattle.admin_mgr.specs.After.{after, with_set, with_member, without_member, with_cardinality, without_set}
use Rattle.admin_mgr.specs.Verdict.{verdict, refusals, create_set_refusals, add_member_refusals, delete_member_refusals, set_cardinality_refusals}
use Rattle.admin_mgr.specs.Good.{IsGood, IsWellFormed, IsStaticallySeparated, IsDynamicallySeparated}
use Rattle.admin_mgr.proofs.Verdicts.SeparationLaws.{static_test, dynamic_test, unmapped}
use Rattle.admin_mgr.proofs.Verdicts.SetCommandViolations.{formed_sets, after_create_set, after_add_member, after_delete_member, after_set_cardinality, after_delete_set}
use Rattle.admin_mgr.proofs.Verdicts.VerdictLaws.{passed, refuse_unless-None, all_but_last}
use Rattle.admin_mgr.proofs.StateAfter.EndLaws.{count-fewer}
use Rattle.admin_mgr.proofs.StateAfter.PartLaws.{seconds-subset}
use Rattle.admin_mgr.proofs.StateAfter.SetRowLaws.{same_cardinality}
use Rattle.admin_mgr.proofs.StateAfter.SoundSetLaws.{IsSound, CanCreate, CanAddMember, CanDeleteMember, CanSetCardinality, can_create, can_add_member, can_delete_member, can_set_cardinality, sound_with_set, sound_with_member, sound_without_member, sound_with_cardinality, sound_without_set, IsPartOf, part_without_member, part_without_set}

-- ---- other sets in a good state

-- the sets of a good state are sound
sound_sets : (duty : SeparationOfDuty) (S : RbacState) → IsGood S → IsSound S (kind_of duty) (sets_of duty S)
sound_sets Static S good = record { formed = good.well_formed.ssd; sets = good.limits.ssd_sets; members = good.limits.ssd_members }
sound_sets Dynamic S good = record { formed = good.well_formed.dsd; sets = good.limits.dsd_sets; members = good.limits.dsd_members }

-- nothing changes if the sets stay the same
pub same_sets : (duty : SeparationOfDuty) (S : RbacState) → with_sets duty S (sets_of duty S) ≡ S
same_sets Static S = refl
same_sets Dynamic S = refl

module _ (S : RbacState) (good : IsGood S) (ssd dsd : Separation) (sound_ssd : IsSound S SsdSet ssd) (sound_dsd : IsSound S DsdSet dsd) where
  abbrev both : RbacState
  both = record S { ssd = ssd; dsd = dsd }

  formed_both : IsWellFormed both
  formed_both = let formed = good.well_formed in assumption

  -- the state with sound sets that nobody violates is good
  good_both : IsStaticallySeparated both → IsDynamicallySeparated both → IsGood both
  unfolding authorized_users
  good_both statically dynamically = let formed = formed_both in assumption

-- the state with sound sets is good if the verdict finds none of them violated
good_if_none_violated : (duty : SeparationOfDuty) (S : RbacState) → IsGood S → (other : Separation) → IsSound S (kind_of duty) other → violates duty (with_sets duty S other) ≡ None → IsGood (with_sets duty S other)
unfolding authorized_users
good_if_none_violated Static S good other sound none_is_violated =
    let T : RbacState = record S { ssd = other } in
    let none : static_violation T ≡ None = (unmapped StaticSeparation (static_violation T)).0 none_is_violated in
    let kept = sound_sets Dynamic S good in
    good_both S good other S.dsd sound kept ((static_test T (formed_both S good other S.dsd sound kept)).0 none) good.dynamic_separation
good_if_none_violated Dynamic S good other sound none_is_violated =
    let T : RbacState = record S { dsd = other } in
    let none : dynamic_violation T ≡ None = (unmapped DynamicSeparation (dynamic_violation T)).0 none_is_violated in
    good_both S good S.ssd other (sound_sets Static S good) sound good.static_separation ((dynamic_test T).0 none)

-- the state with a sound part of the sets of a good state is good
good_part : (duty : SeparationOfDuty) (S : RbacState) → IsGood S → (other : Separation) → IsSound S (kind_of duty) other → IsPartOf other (sets_of duty S) → IsGood (with_sets duty S other)
unfolding authorized_users
good_part Static S good other sound part = good_both S good other S.dsd sound (sound_sets Dynamic S good)
    (λ name user n there.
    omega (arith, good.static_separation name user n (part.cardinalities (name, n) there), count-fewer (is_authorized S user) (is_authorized S user) (members_of other name) (members_of S.ssd name) (seconds-subset other.members S.ssd.members name part.members) (λ x h. h)))
    good.dynamic_separation
good_part Dynamic S good other sound part = good_both S good S.ssd other (sound_sets Static S good) sound
    good.static_separation
    (λ name session user n there owner.
    omega (arith, good.dynamic_separation name session user n (part.cardinalities (name, n) there) owner, count-fewer (is_session_role S session) (is_session_role S session) (members_of other name) (members_of S.dsd name) (seconds-subset other.members S.dsd.members name part.members) (λ x h. h)))

-- ---- the refusals of each command

pub refusals_create_set : (duty : SeparationOfDuty) (S : RbacState) (name : Bytes) (roles : Stored Bytes) (n : ℕ) →
    refusals S (create_set duty name roles n) ≡ create_set_refusals S (sets_of duty S) (kind_of duty) name (set_of name_cmp roles) n ++ violates duty (after S (create_set duty name roles n)) ∷ []
unfolding refusals
refusals_create_set Static S name roles n = refl
refusals_create_set Dynamic S name roles n = refl

pub refusals_add_member : (duty : SeparationOfDuty) (S : RbacState) (name role : Bytes) →
    refusals S (add_member duty name role) ≡ add_member_refusals S (sets_of duty S) name role ++ violates duty (after S (add_member duty name role)) ∷ []
unfolding refusals
refusals_add_member Static S name role = refl
refusals_add_member Dynamic S name role = refl

pub refusals_delete_member : (duty : SeparationOfDuty) (S : RbacState) (name role : Bytes) → refusals S (delete_member duty name role) ≡ delete_member_refusals S (sets_of duty S) name role
unfolding refusals
refusals_delete_member Static S name role = refl
refusals_delete_member Dynamic S name role = refl

pub refusals_set_cardinality : (duty : SeparationOfDuty) (S : RbacState) (name : Bytes) (n : ℕ) →
    refusals S (set_cardinality duty name n) ≡ set_cardinality_refusals (sets_of duty S) name n ++ violates duty (after S (set_cardinality duty name n)) ∷ []
unfolding refusals
refusals_set_cardinality Static S name n = refl
refusals_set_cardinality Dynamic S name n = refl

pub refusals_delete_set : (duty : SeparationOfDuty) (S : RbacState) (name : Bytes) → refusals S (delete_set duty name) ≡ refuse_unless (has_set (sets_of duty S) name) NoSet ∷ []
unfolding refusals
refusals_delete_set Static S name = refl
refusals_delete_set Dynamic S name = refl

-- ---- the conditions that an accepted command meets, and the state after it

module _ (duty : SeparationOfDuty) (S : RbacState) (name : Bytes) where
  -- a set is created: it was not there, and no set is violated afterwards
  create_parts : (roles : Stored Bytes) (n : ℕ) → verdict S (create_set duty name roles n) ≡ None →
      CanCreate S (sets_of duty S) (kind_of duty) name (set_of name_cmp roles) n × (violates duty (after S (create_set duty name roles n)) ≡ None)
  unfolding verdict
  create_parts roles n accepted =
      let parts = all_but_last (create_set_refusals S (sets_of duty S) (kind_of duty) name (set_of name_cmp roles) n) (violates duty (after S (create_set duty name roles n))) (sym (ap first (refusals_create_set duty S name roles n)) ∙ accepted) in
      (can_create S (sets_of duty S) (kind_of duty) name (set_of name_cmp roles) n parts.0, parts.1)

  pub can_create_set : (roles : Stored Bytes) (n : ℕ) → verdict S (create_set duty name roles n) ≡ None → CanCreate S (sets_of duty S) (kind_of duty) name (set_of name_cmp roles) n
  can_create_set roles n accepted = (create_parts roles n accepted).0

  -- a member is added: it was none, and no set is violated afterwards
  add_parts : (role : Bytes) → verdict S (add_member duty name role) ≡ None → CanAddMember S (sets_of duty S) name role × (violates duty (after S (add_member duty name role)) ≡ None)
  unfolding verdict
  add_parts role accepted =
      let parts = all_but_last (add_member_refusals S (sets_of duty S) name role) (violates duty (after S (add_member duty name role))) (sym (ap first (refusals_add_member duty S name role)) ∙ accepted) in
      (can_add_member S (sets_of duty S) name role parts.0, parts.1)

  pub can_add : (role : Bytes) → verdict S (add_member duty name role) ≡ None → CanAddMember S (sets_of duty S) name role
  can_add role accepted = (add_parts role accepted).0

  -- a member is deleted: it was one
  pub can_delete : (role : Bytes) → verdict S (delete_member duty name role) ≡ None → CanDeleteMember (sets_of duty S) name role
  unfolding verdict
  can_delete role accepted = can_delete_member S (sets_of duty S) name role (sym (ap first (refusals_delete_member duty S name role)) ∙ accepted)

  -- a cardinality is set: the set is there, the cardinality fits, and no set is violated afterwards
  number_parts : (n : ℕ) → verdict S (set_cardinality duty name n) ≡ None → CanSetCardinality (sets_of duty S) name n × (violates duty (after S (set_cardinality duty name n)) ≡ None)
  unfolding verdict
  number_parts n accepted =
      let parts = all_but_last (set_cardinality_refusals (sets_of duty S) name n) (violates duty (after S (set_cardinality duty name n))) (sym (ap first (refusals_set_cardinality duty S name n)) ∙ accepted) in
      (can_set_cardinality (sets_of duty S) name n parts.0, parts.1)

  pub can_number : (n : ℕ) → verdict S (set_cardinality duty name n) ≡ None → CanSetCardinality (sets_of duty S) name n
  can_number n accepted = (number_parts n accepted).0

  -- a set is deleted: it was there
  pub can_delete_set : verdict S (delete_set duty name) ≡ None → has_set (sets_of duty S) name ≡ true
  unfolding verdict
  can_delete_set accepted =
      refuse_unless-None (has_set (sets_of duty S) name) NoSet (passed (refuse_unless (has_set (sets_of duty S) name) NoSet ∷ []) (sym (ap first (refusals_delete_set duty S name)) ∙ accepted)).0

  module _ (good : IsGood S) where
    pub good_after_create_set : (roles : Stored Bytes) (n : ℕ) → verdict S (create_set duty name roles n) ≡ None → IsGood (after S (create_set duty name roles n))
    good_after_create_set roles n accepted =
        let parts = create_parts roles n accepted in
        let is = after_create_set duty S good name roles n in
        subst IsGood (sym is) (good_if_none_violated duty S good (with_set (sets_of duty S) name (set_of name_cmp roles) n)
        (sound_with_set S (kind_of duty) (sets_of duty S) (sound_sets duty S good) name (set_of name_cmp roles) n parts.0) (sym (ap (violates duty) is) ∙ parts.1))

    pub good_after_add_member : (role : Bytes) → verdict S (add_member duty name role) ≡ None → IsGood (after S (add_member duty name role))
    good_after_add_member role accepted =
        let parts = add_parts role accepted in
        let is = after_add_member duty S good name role in
        subst IsGood (sym is) (good_if_none_violated duty S good (with_member (sets_of duty S) name role)
        (sound_with_member S (kind_of duty) (sets_of duty S) (sound_sets duty S good) name role parts.0) (sym (ap (violates duty) is) ∙ parts.1))

    pub good_after_delete_member : (role : Bytes) → verdict S (delete_member duty name role) ≡ None → IsGood (after S (delete_member duty name role))
    good_after_delete_member role accepted = subst IsGood (sym (after_delete_member duty S good name role)) (good_part duty S good (without_member (sets_of duty S) name role)
        (sound_without_member S (kind_of duty) (sets_of duty S) (sound_sets duty S good) name role (can_delete role accepted)) (part_without_member (sets_of duty S) name role))

    pub good_after_set_cardinality : (n : ℕ) → verdict S (set_cardinality duty name n) ≡ None → IsGood (after S (set_cardinality duty name n))
    good_after_set_cardinality n accepted =
        let parts = number_parts n accepted in
        let is = after_set_cardinality duty S good name n in
        subst IsGood (sym is) (good_if_none_violated duty S good (with_cardinality (sets_of duty S) name n)
        (sound_with_cardinality S (kind_of duty) (sets_of duty S) (sound_sets duty S good) name n parts.0) (sym (ap (violates duty) is) ∙ parts.1))

    -- nothing changes if the set has this cardinality already
    pub after_same_cardinality : (n : ℕ) → cardinality_of (sets_of duty S) name ≡ Some n → after S (set_cardinality duty name n) ≡ S
    after_same_cardinality n told =
        after_set_cardinality duty S good name n
        ∙ ap (with_sets duty S) (same_cardinality (sets_of duty S) S.roles (formed_sets duty S good) name n told n refl)
        ∙ same_sets duty S

    pub good_after_delete_set : IsGood (after S (delete_set duty name))
    good_after_delete_set = subst IsGood (sym (after_delete_set duty S good name)) (good_part duty S good (without_set (sets_of duty S) name)
        (sound_without_set S (kind_of duty) (sets_of duty S) (sound_sets duty S good) name) (part_without_set (sets_of duty S) name))
