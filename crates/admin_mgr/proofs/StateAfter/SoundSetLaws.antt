-- The separation of duty sets after a command on one of them: they are well formed, and within their limits.
use Rattle.std.proofs.Common.{◌≡◌, ◌≢◌, ℕ, ◌+◌, ◌<◌, ◌≤◌, true, false, not, refl, sym, ◌∙◌, ap, subst, arith, inl, inr}
use Rattle.std.specs.Prelude.{IsTrue, Option, Some, None}
use Rattle.std.specs.Ordering.{eq_by_cmp}
use Rattle.std.proofs.lemmas.Bool.{and_parts, and_from, or_cases, ltb-true, leb-true, not-true, true≢false, false_from_ne_true}
use Rattle.rbac_sets.specs.Sets.{Bytes, Pair, Names, Cardinality, Cardinalities, pair_cmp, contains, insert, len, count}
use Rattle.rbac_sets.specs.Kind.{limit_of}
use Rattle.rbac_sets.specs.NameOrder.{name_total, name_exact, pair_total, pair_exact, cardinality_total, cardinality_exact}
use Rattle.rbac_sets.specs.declared.kind.Kind.{Kind}
use Rattle.rbac_sets.specs.declared.kind.Kind.TheVariants.{Member}
use Rattle.rbac_sets.specs.declared.refusal.Refusal.TheVariants.{NoRole, NoSet, SetExists, BadCardinality}
use Rattle.rbac_sets.proofs.SetLaws.{tie_Decides, contains-union, contains-remove, contains-insert-Decides, all-Decides, seconds-Decides}
use Rattle.rbac_sets.proofs.Members.{len-subset, len-insert-le}
use Rattle.role_order.proofs.Members.{same_or_other}
use Rattle.admin_mgr.specs.RbacState.{RbacState, Separation, members_of, has_set, cardinality_of, is_below}
use Rattle.admin_mgr.specs.Refusals.{first}
use Rattle.admin_mgr.specs.Verdict.{create_set_refusals, add_member_refusals, delete_member_refusals, set_cardinality_refusals}
use Rattle.admin_mgr.specs.After.{paired, without_cardinality, with_set, with_member, without_member, with_cardinality, without_set}
use Rattle.admin_mgr.specs.Good.{IsSeparation}
use Rattle.admin_mgr.proofs.Verdicts.VerdictLaws.{passed, refuse_if-None, refuse_unless-None}
use Rattle.admin_mgr.proofs.Verdicts.ViolationLaws.{paired-Decides, with_paired-own, with_paired-others, with_one-own, with_one-others}
use Rattle.admin_mgr.proofs.StateAfter.SetRowLaws.{IsNumberedOnce, has_set-from, numbered_set, no_cardinality, no_members, found_cardinality, other_cardinality, other_cardinality-from, with_same_cardinality, contains-without_first}
use Rattle.admin_mgr.proofs.Imports.UnionLaws.{len-insert-new}
use Rattle.admin_mgr.proofs.StateAfter.LimitLaws.{too_many-None}

-- ---- the conditions that an accepted command meets

-- CreateSsdSet, CreateDsdSet: the roles are there and the set is not, the cardinality fits, and so do the limits
pub record CanCreate (S : RbacState) (separation : Separation) (kind : Kind) (name : Bytes) (roles : Names) (n : ℕ) : Type 0 where
  pub are_roles : (role : Bytes) → IsTrue (contains roles role) → IsTrue (contains S.roles role)
  pub absent : has_set separation name ≡ false
  pub two : 2 ≤ n
  pub fits : n ≤ len roles
  pub room_for_set : len separation.cardinalities + 1 ≤ limit_of kind S.version
  pub room_for_members : len roles ≤ limit_of Member S.version

-- AddSsdRoleMember, AddDsdRoleMember: the set and the role are there, the member is not, and there is room for it
pub record CanAddMember (S : RbacState) (separation : Separation) (name role : Bytes) : Type 0 where
  pub there : has_set separation name ≡ true
  pub is_role : IsTrue (contains S.roles role)
  pub absent : contains separation.members (name, role) ≡ false
  pub room : len (members_of separation name) + 1 ≤ limit_of Member S.version

-- DeleteSsdRoleMember, DeleteDsdRoleMember: the member is there, and the cardinality fits the others
pub record CanDeleteMember (separation : Separation) (name role : Bytes) : Type 0 where
  pub there : has_set separation name ≡ true
  pub is_member : contains separation.members (name, role) ≡ true
  pub below : is_below (cardinality_of separation name) (len (members_of separation name)) ≡ true

-- SetSsdSetCardinality, SetDsdSetCardinality: the set is there, and the cardinality fits
pub record CanSetCardinality (separation : Separation) (name : Bytes) (n : ℕ) : Type 0 where
  pub there : has_set separation name ≡ true
  pub two : 2 ≤ n
  pub fits : n ≤ len (members_of separation name)

-- if no refusal applies, the set can be created
pub can_create : (S : RbacState) (separation : Separation) (kind : Kind) (name : Bytes) (roles : Names) (n : ℕ) →
    first (create_set_refusals S separation kind name roles n) ≡ None → CanCreate S separation kind name roles n
can_create S separation kind name roles n accepted =
    let all_passed = passed (create_set_refusals S separation kind name roles n) accepted in
    let fitting = and_parts _ _ (refuse_unless-None _ BadCardinality all_passed.1.1.0) in
    record {
      are_roles = (all-Decides name_total name_exact (contains S.roles) roles).0 (refuse_unless-None _ NoRole all_passed.0);
      absent = refuse_if-None (has_set separation name) SetExists all_passed.1.0;
      two = leb-true _ _ fitting.0;
      fits = leb-true _ _ fitting.1;
      room_for_set = too_many-None S kind _ all_passed.1.1.1.0;
      room_for_members = too_many-None S Member _ all_passed.1.1.1.1.0;
    }

-- if no refusal applies, the member can be added
pub can_add_member : (S : RbacState) (separation : Separation) (name role : Bytes) → first (add_member_refusals S separation name role) ≡ None → CanAddMember S separation name role
can_add_member S separation name role accepted = search (passed (add_member_refusals S separation name role) accepted, refuse_if-None, refuse_unless-None, too_many-None)

-- if no refusal applies, the member can be deleted
pub can_delete_member : (S : RbacState) (separation : Separation) (name role : Bytes) → first (delete_member_refusals S separation name role) ≡ None → CanDeleteMember separation name role
can_delete_member S separation name role accepted = search (passed (delete_member_refusals S separation name role) accepted, refuse_unless-None)

-- if no refusal applies, the cardinality can be set
pub can_set_cardinality : (separation : Separation) (name : Bytes) (n : ℕ) → first (set_cardinality_refusals separation name n) ≡ None → CanSetCardinality separation name n
can_set_cardinality separation name n accepted =
    let all_passed = passed (set_cardinality_refusals separation name n) accepted in
    let fitting = and_parts _ _ (refuse_unless-None _ BadCardinality all_passed.1.0) in
    record {
      there = refuse_unless-None (has_set separation name) NoSet all_passed.0;
      two = leb-true _ _ fitting.0;
      fits = leb-true _ _ fitting.1;
    }

-- ---- sets that are sound

-- the sets of one kind are well formed, and their number and that of the members of each are within the limits
pub record IsSound (S : RbacState) (kind : Kind) (separation : Separation) : Type 0 where
  pub formed : IsSeparation S.roles separation
  pub sets : len separation.cardinalities ≤ limit_of kind S.version
  pub members : (name : Bytes) → len (members_of separation name) ≤ limit_of Member S.version

-- one more cardinality, of a name that has none
numbered_with : (cardinalities : Cardinalities) → IsNumberedOnce cardinalities → (name : Bytes) (n : ℕ) → ((m : ℕ) → IsTrue (contains cardinalities (name, m)) → ⊥) → IsNumberedOnce (insert cardinalities (name, n))
numbered_with cardinalities once name n none x m other one two =
    let put = λ (k : ℕ). contains-insert-Decides cardinality_total cardinality_exact cardinalities (name, n) (x, k) in
    elim ((put m).0 one) [
      | inl same ↦ elim ((put other).0 two) [
        | inl alike ↦ ap (λ (c : Cardinality). c.1) same ∙ sym (ap (λ (c : Cardinality). c.1) alike)
        | inr old ↦ absurd (none other (subst (λ first. IsTrue (contains cardinalities (first, other))) (ap (λ (c : Cardinality). c.0) same) old))
      ]
      | inr was ↦ elim ((put other).0 two) [
        | inl alike ↦ absurd (none m (subst (λ first. IsTrue (contains cardinalities (first, m))) (ap (λ (c : Cardinality). c.0) alike) was))
        | inr old ↦ once x m other was old
      ]
    ]

-- the cardinality is below the count
below_number : (o : Option ℕ) (count n : ℕ) → o ≡ Some n → is_below o count ≡ true → n < count
below_number o count n is h = ltb-true n count (sym (ap (λ x. is_below x count) is) ∙ h)

module _ (S : RbacState) (kind : Kind) (separation : Separation) (sound : IsSound S kind separation) where
  -- a separation of duty set has no more members than in another separation that has all of them
  as_before : (other : Separation) (x : Bytes) → ((q : Bytes) → IsTrue (contains separation.members (x, q)) → IsTrue (contains other.members (x, q))) →
      len (members_of separation x) ≤ len (members_of other x)
  as_before other x stay = len-subset name_total name_exact (members_of separation x) (members_of other x) (λ q h.
      (seconds-Decides other.members x q).1 (stay q ((seconds-Decides separation.members x q).0 h)))

  -- sound with one more set
  pub sound_with_set : (name : Bytes) (roles : Names) (n : ℕ) → CanCreate S separation kind name roles n → IsSound S kind (with_set separation name roles n)
  sound_with_set name roles n can =
      let T : Separation = with_set separation name roles n in
      let none : (role : Bytes) → IsTrue (contains separation.members (name, role)) → ⊥ = λ role h. true≢false (sym h ∙ no_members separation name can.absent S.roles sound.formed role) in
      let own : members_of T name ≡ roles = with_paired-own separation.members name roles none in
      let put = λ (x : Cardinality). contains-insert-Decides cardinality_total cardinality_exact separation.cardinalities (name, n) x in
      let unnumbered : (m : ℕ) → IsTrue (contains separation.cardinalities (name, m)) → ⊥ = λ m h. true≢false (sym h ∙ no_cardinality separation name can.absent m) in
      let apart : (x : Bytes) (m : ℕ) → IsTrue (contains separation.cardinalities (x, m)) → x ≢ name = λ x m h same.
      unnumbered m (subst (λ first. IsTrue (contains separation.cardinalities (first, m))) same h) in
      record {
        formed = record {
          members = λ x q h. elim (or_cases _ _ (sym (contains-union pair_total pair_exact separation.members (paired name roles) (x, q)) ∙ h)) [
            | inl old ↦ (
              (let one = numbered_set separation x (sound.formed.members x q old).0 in has_set-from T x one.0 ((put (x, one.0)).1 (inr one.1))),
              (sound.formed.members x q old).1,
            )
            | inr new ↦ (let pair = (paired-Decides name roles x q).0 new in (
              has_set-from T x n ((put (x, n)).1 (inl (λ i. (pair.0 i, n)))),
              can.are_roles q pair.1,
            ))
          ];
          cardinality = λ x m h. elim ((put (x, m)).0 h) [
            | inl same ↦ subst (λ (c : Cardinality). (2 ≤ c.1) × (c.1 ≤ len (members_of T c.0))) (sym same) (can.two, subst (λ s. n ≤ len s) (sym own) can.fits)
            | inr old ↦ (let before = sound.formed.cardinality x m old in
                (before.0, subst (λ s. m ≤ len s) (sym (with_paired-others separation.members name roles x (apart x m old))) before.1))
          ];
          one_cardinality = numbered_with separation.cardinalities sound.formed.one_cardinality name n unnumbered;
        };
        sets = (let more = len-insert-le cardinality_total separation.cardinalities (name, n) in let room = can.room_for_set in omega (arith, more, room));
        members = λ x. elim (same_or_other x name) [
          | inl same ↦ subst (λ s. len s ≤ limit_of Member S.version) (sym (ap (members_of T) same ∙ own)) can.room_for_members
          | inr other ↦ subst (λ s. len s ≤ limit_of Member S.version) (sym (with_paired-others separation.members name roles x other)) (sound.members x)
        ];
      }

  -- sound with one more member of a set
  pub sound_with_member : (name role : Bytes) → CanAddMember S separation name role → IsSound S kind (with_member separation name role)
  sound_with_member name role can =
      let T : Separation = with_member separation name role in
      let put = λ (x q : Bytes). contains-insert-Decides pair_total pair_exact separation.members (name, role) (x, q) in
      record {
        formed = record {
          members = λ x q h. elim ((put x q).0 h) [
            | inl same ↦ (
              subst (λ first. IsTrue (has_set separation first)) (sym (ap (λ (p : Pair). p.0) same)) can.there,
              subst (λ r. IsTrue (contains S.roles r)) (sym (ap (λ (p : Pair). p.1) same)) can.is_role,
            )
            | inr old ↦ sound.formed.members x q old
          ];
          cardinality = λ x m h.
              let before = sound.formed.cardinality x m h in
              let more = as_before T x (λ q old. (put x q).1 (inr old)) in
              (before.0, omega (arith, before.1, more));
          one_cardinality = sound.formed.one_cardinality;
        };
        sets = sound.sets;
        members = λ x. elim (same_or_other x name) [
          | inl same ↦ (let more = len-insert-le name_total (members_of separation name) role in
              subst (λ s. len s ≤ limit_of Member S.version) (sym (ap (members_of T) same ∙ with_one-own separation.members name role)) (omega (arith, more, can.room)))
          | inr other ↦ subst (λ s. len s ≤ limit_of Member S.version) (sym (with_one-others separation.members name role x other)) (sound.members x)
        ];
      }

  -- sound with one member of a set fewer
  pub sound_without_member : (name role : Bytes) → CanDeleteMember separation name role → IsSound S kind (without_member separation name role)
  sound_without_member name role can =
      let T : Separation = without_member separation name role in
      let was : (x q : Bytes) → IsTrue (contains T.members (x, q)) → IsTrue (contains separation.members (x, q)) = λ x q h.
      (and_parts (not (eq_by_cmp pair_cmp (x, q) (name, role))) (contains separation.members (x, q)) (sym (contains-remove pair_total separation.members (name, role) (x, q)) ∙ h)).1 in
      let stays : (x q : Bytes) → IsTrue (contains separation.members (x, q)) → (◌≡◌ {A = Pair} (x, q) (name, role) → ⊥) → IsTrue (contains T.members (x, q)) = λ x q h other.
      contains-remove pair_total separation.members (name, role) (x, q)
      ∙ and_from _ _ (ap not (false_from_ne_true _ (λ same. other ((tie_Decides pair_total pair_exact (x, q) (name, role)).0 same)))) h in
      let less : len (members_of separation name) ≤ len (insert (members_of T name) role) = len-subset name_total name_exact (members_of separation name) (insert (members_of T name) role) (λ q h.
      (contains-insert-Decides name_total name_exact (members_of T name) role q).1 (elim (same_or_other q role) [
        | inl same ↦ inl same
        | inr other ↦ inr ((seconds-Decides T.members name q).1 (stays name q ((seconds-Decides separation.members name q).0 h) (λ same. other (ap (λ (p : Pair). p.1) same))))
      ])) in
      let one : len (insert (members_of T name) role) ≤ len (members_of T name) + 1 = len-insert-le name_total (members_of T name) role in
      let left : (x : Bytes) (m : ℕ) → IsTrue (contains separation.cardinalities (x, m)) → (x ≡ name) → m ≤ len (members_of T x) = λ x m h same.
      let here : IsTrue (contains separation.cardinalities (name, m)) = subst (λ first. IsTrue (contains separation.cardinalities (first, m))) same h in
      let below : m < len (members_of separation name) = below_number _ _ m (found_cardinality separation S.roles sound.formed name m here) can.below in
      subst (λ first. m ≤ len (members_of T first)) (sym same) (omega (arith, below, less, one)) in
      record {
        formed = record {
          members = λ x q h. sound.formed.members x q (was x q h);
          cardinality = λ x m h.
              let before = sound.formed.cardinality x m h in (
                before.0,
                elim (same_or_other x name) [
                  | inl same ↦ left x m h same
                  | inr other ↦ (let kept = as_before T x (λ q old. stays x q old (λ same. other (ap (λ (p : Pair). p.0) same))) in omega (arith, before.1, kept))
                ],
              );
          one_cardinality = sound.formed.one_cardinality;
        };
        sets = sound.sets;
        members = λ x.
            let fewer = len-subset name_total name_exact (members_of T x) (members_of separation x) (λ q h.
            (seconds-Decides separation.members x q).1 (was x q ((seconds-Decides T.members x q).0 h))) in
            omega (arith, sound.members x, fewer);
      }

  -- sound with another cardinality of a set
  pub sound_with_cardinality : (name : Bytes) (n : ℕ) → CanSetCardinality separation name n → IsSound S kind (with_cardinality separation name n)
  sound_with_cardinality name n can =
      let T : Separation = with_cardinality separation name n in
      let others : Cardinalities = without_cardinality name separation.cardinalities in
      let put = λ (x : Bytes) (m : ℕ). contains-insert-Decides cardinality_total cardinality_exact others (name, n) (x, m) in
      let none : (m : ℕ) → IsTrue (contains others (name, m)) → ⊥ = λ m h. (other_cardinality name separation.cardinalities (name, m) h).1 refl in
      let before = numbered_set separation name can.there in
      let whole : len (insert others (name, before.0)) ≡ len separation.cardinalities =
      ap (λ (s : Separation). len s.cardinalities) (with_same_cardinality separation S.roles sound.formed name before.0 before.1) in
      let rest : len (insert others (name, before.0)) ≡ len others + 1 = len-insert-new cardinality_total cardinality_exact others (name, before.0) (false_from_ne_true _ (none before.0)) in
      let more : len (insert others (name, n)) ≤ len others + 1 = len-insert-le cardinality_total others (name, n) in
      record {
        formed = record {
          members = λ x q h.
              let was = sound.formed.members x q h in (
                elim (same_or_other x name) [
                  | inl same ↦ has_set-from T x n ((put x n).1 (inl (λ i. (same i, n))))
                  | inr other ↦ (let one = numbered_set separation x was.0 in has_set-from T x one.0 ((put x one.0).1 (inr (other_cardinality-from name separation.cardinalities (x, one.0) one.1 other))))
                ],
                was.1,
              );
          cardinality = λ x m h. elim ((put x m).0 h) [
            | inl same ↦ subst (λ (c : Cardinality). (2 ≤ c.1) × (c.1 ≤ len (members_of separation c.0))) (sym same) (can.two, can.fits)
            | inr old ↦ sound.formed.cardinality x m (other_cardinality name separation.cardinalities (x, m) old).0
          ];
          one_cardinality = numbered_with others (λ x m other one two.
              sound.formed.one_cardinality x m other (other_cardinality name separation.cardinalities (x, m) one).0 (other_cardinality name separation.cardinalities (x, other) two).0) name n none;
        };
        sets = omega (arith, whole, rest, more, sound.sets);
        members = sound.members;
      }

  -- sound without a set
  pub sound_without_set : (name : Bytes) → IsSound S kind (without_set separation name)
  sound_without_set name =
      let T : Separation = without_set separation name in
      let was : (x q : Bytes) → IsTrue (contains T.members (x, q)) → IsTrue (contains separation.members (x, q)) × (x ≢ name) = λ x q h.
      let parts = and_parts _ _ (sym (contains-without_first separation.members name (x, q)) ∙ h) in
      (parts.0, λ same. true≢false (sym ((tie_Decides name_total name_exact x name).1 same) ∙ not-true _ parts.1)) in
      let stays : (x q : Bytes) → IsTrue (contains separation.members (x, q)) → x ≢ name → IsTrue (contains T.members (x, q)) = λ x q h other.
      contains-without_first separation.members name (x, q) ∙ and_from _ _ h (ap not (false_from_ne_true _ (λ same. other ((tie_Decides name_total name_exact x name).0 same)))) in
      record {
        formed = record {
          members = λ x q h.
              let old = was x q h in
              let before = sound.formed.members x q old.0 in
              let one = numbered_set separation x before.0 in
              (has_set-from T x one.0 (other_cardinality-from name separation.cardinalities (x, one.0) one.1 old.1), before.1);
          cardinality = λ x m h.
              let old = other_cardinality name separation.cardinalities (x, m) h in
              let before = sound.formed.cardinality x m old.0 in
              let kept = as_before T x (λ q here. stays x q here old.1) in
              (before.0, omega (arith, before.1, kept));
          one_cardinality = λ x m other one two.
              sound.formed.one_cardinality x m other (other_cardinality name separation.cardinalities (x, m) one).0 (other_cardinality name separation.cardinalities (x, other) two).0;
        };
        sets = (let fewer = len-subset cardinality_total cardinality_exact T.cardinalities separation.cardinalities (λ x h. (other_cardinality name separation.cardinalities x h).0) in
            let limit = sound.sets in omega (arith, fewer, limit));
        members = λ x.
            let fewer = len-subset name_total name_exact (members_of T x) (members_of separation x) (λ q h.
            (seconds-Decides separation.members x q).1 (was x q ((seconds-Decides T.members x q).0 h)).0) in
            omega (arith, sound.members x, fewer);
      }

-- ---- fewer roles and sets

-- each member and each cardinality is one of the other
pub record IsPartOf (part whole : Separation) : Type 0 where
  pub members : (pair : Pair) → IsTrue (contains part.members pair) → IsTrue (contains whole.members pair)
  pub cardinalities : (x : Cardinality) → IsTrue (contains part.cardinalities x) → IsTrue (contains whole.cardinalities x)

-- to delete a member leaves a part
pub part_without_member : (separation : Separation) (name role : Bytes) → IsPartOf (without_member separation name role) separation
part_without_member separation name role = record {
  members = λ pair h. (and_parts _ _ (sym (contains-remove pair_total separation.members (name, role) pair) ∙ h)).1;
  cardinalities = λ x h. h;
}

-- to delete a set leaves a part
pub part_without_set : (separation : Separation) (name : Bytes) → IsPartOf (without_set separation name) separation
part_without_set separation name = record {
  members = λ pair h. (and_parts _ _ (sym (contains-without_first separation.members name pair) ∙ h)).0;
  cardinalities = λ x h. (other_cardinality name separation.cardinalities x h).0;
}
