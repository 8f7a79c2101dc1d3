-- The sets that one more immediate inheritance violates, and who violates them, by tests of the state before.
use Rattle.std.proofs.Common.{◌≡◌, ℕ, ◌<◌, Bool, true, false, not, ◌||◌, ◌&&◌, List, [], ◌∷◌, refl, sym, ◌∙◌, ap, subst, inl, inr}
use Rattle.std.specs.Prelude.{IsTrue, is_some, find, nat_lt, count_by, slice_get}
use Rattle.std.specs.Option.{option_map}
use Rattle.std.specs.List.{list_any}
use Rattle.std.proofs.lemmas.Bool.{and_parts, and_from, or_cases, or_left, or_right, lt-ltb, true≢false}
use Rattle.std.proofs.Math.Bool.{and-false, or-false}
use Rattle.std.specs.Cmp.{both_ways}
use Rattle.rbac_sets.specs.NameOrder.{name_total, name_exact, pair_total, pair_exact}
use Rattle.rbac_sets.specs.Sets.{Bytes, Pair, Names, Cardinality, all, contains, count, insert, members}
use Rattle.rbac_sets.specs.declared.command.Command.TheVariants.{AddInheritance}
use Rattle.rbac_sets.specs.declared.refusal.Refusal.TheVariants.{StaticSeparation, DynamicSeparation}
use Rattle.rbac_sets.proofs.SetLaws.{contains-members}
use Rattle.role_order.specs.Order.{Geq, geq}
use Rattle.role_order.proofs.Closing.{added_edge}
use Rattle.role_order.proofs.Deciding.{geq-Decides}
use Rattle.admin_mgr.specs.After.{after, changed}
use Rattle.admin_mgr.specs.Authorization.{is_authorized, is_session_role}
use Rattle.admin_mgr.specs.Good.{IsGood}
use Rattle.admin_mgr.specs.RbacState.{RbacState, members_of}
use Rattle.admin_mgr.specs.Refusals.{violates_static, violates_dynamic}
use Rattle.admin_mgr.specs.Separation.{is_kept_statically, is_kept_dynamically}
use Rattle.admin_mgr.specs.private.HolderRoles.{is_reached, is_touched, reached_members, run_of}
use Rattle.admin_mgr.proofs.StateAfter.SessionLaws.{none_ends_where}
use Rattle.admin_mgr.proofs.Verdicts.AuthorizationLaws.{authorized_members_count, session_members_count}
use Rattle.admin_mgr.proofs.Verdicts.InheritLaws.{goes_on_below, with_edge}
use Rattle.admin_mgr.proofs.Verdicts.TouchLaws.{one_more}
use Rattle.explanations.specs.Conflicts.{dynamic_conflicts, first_session_with, first_user_with, static_conflicts, violated_by_first}
use Rattle.explanations.specs.private.Found.{conflicts_with, first_with, has_too_many_with, sessions_with, users_with}
use Rattle.explanations.proofs.Conflicting.{least_is_listed, mapped_agrees, some_fail}
use Rattle.explanations.proofs.Finds.{find_agrees, find_only, find_only_map, is_some_map}
use Rattle.explanations.proofs.Least.{least-retain}

-- ---- who has which roles with one more edge

any_crossed : (p q : Pair → Bool) (b : Bool) (xs : List Pair) → list_any (λ x. p x || (q x && b)) xs ≡ (list_any p xs || (list_any q xs && b))
any_crossed p q b [] = refl
any_crossed p q b (x ∷ xs) = ap (λ rest. (p x || (q x && b)) || rest) (any_crossed p q b xs) ∙ shuffle (p x) (q x) b (list_any p xs) (list_any q xs)
  where
    shuffle : (a c b d e : Bool) → ((a || (c && b)) || (d || (e && b))) ≡ ((a || d) || ((c || e) && b))
    shuffle true c b d e = refl
    shuffle false true true true e = refl
    shuffle false true true false e = refl
    shuffle false true false true e = refl
    shuffle false true false false true = refl
    shuffle false c b d e = refl

module _ (S : RbacState) (good : IsGood S) (asc desc : Bytes) (no_back : geq S.edges desc asc ≡ false) where
  crossed : (r q : Bytes) → geq (insert S.edges (asc, desc)) r q ≡ (geq S.edges r q || (geq S.edges r asc && geq S.edges desc q))
  crossed r q =
      let no_cycle : Geq S.edges desc asc → ⊥ = λ back. true≢false (sym ((geq-Decides S.edges desc asc).1 back) ∙ no_back) in
      let crosses = (added_edge S.edges asc desc good.acyclic no_cycle).0 r q in
      both_ways (geq (insert S.edges (asc, desc)) r q) (geq S.edges r q || (geq S.edges r asc && geq S.edges desc q))
      (λ h. elim (crosses.0 ((geq-Decides (insert S.edges (asc, desc)) r q).0 h)) [
        | inl old ↦ or_left (geq S.edges r q) _ ((geq-Decides S.edges r q).1 old)
        | inr new ↦ or_right (geq S.edges r q) _ (and_from _ _ ((geq-Decides S.edges r asc).1 new.0) ((geq-Decides S.edges desc q).1 new.1))
      ])
      (λ h. (geq-Decides (insert S.edges (asc, desc)) r q).1 (crosses.1 (elim (or_cases (geq S.edges r q) (geq S.edges r asc && geq S.edges desc q) h) [
        | inl old ↦ inl ((geq-Decides S.edges r q).0 old)
        | inr new ↦ (let parts = and_parts _ _ new in inr ((geq-Decides S.edges r asc).0 parts.0, (geq-Decides S.edges desc q).0 parts.1))
      ])))

  -- the pairs reach what they did, and if they reach asc also what desc dominates
  reached_more : (held : List Pair) (q : Bytes) → is_reached (insert S.edges (asc, desc)) held q ≡ (is_reached S.edges held q || (is_reached S.edges held asc && geq S.edges desc q))
  reached_more held q =
      (λ i. list_any (λ (p : Pair). crossed p.1 q i) held)
      ∙ any_crossed (λ (p : Pair). geq S.edges p.1 q) (λ (p : Pair). geq S.edges p.1 asc) (geq S.edges desc q) held

  -- only whoever has asc can have too many, and only if desc or a junior of it is one of the members
  counted_below : (held rows : List Pair) (n : ℕ) → reached_members S.edges held rows < n →
      not (nat_lt (reached_members (insert S.edges (asc, desc)) held rows) n) ≡ (is_touched S.edges desc rows && (is_reached S.edges held asc && has_too_many_with S.edges held desc rows n))
  counted_below held rows n fewer =
      ap (λ k. not (nat_lt k n)) (λ i. count_by (λ (m : Pair). reached_more held m.1 i) rows) ∙ by (is_reached S.edges held asc)
    where
      by : (b : Bool) → not (nat_lt (count_by (λ (m : Pair). is_reached S.edges held m.1 || (b && geq S.edges desc m.1)) rows) n) ≡ (is_touched S.edges desc rows && (b && has_too_many_with S.edges held desc rows n))
      by true = sym (one_more (λ (m : Pair). is_reached S.edges held m.1) (λ (m : Pair). geq S.edges desc m.1) rows n fewer)
      by false = ap (λ k. not (nat_lt k n)) (λ i. count_by (λ (m : Pair). or-false (is_reached S.edges held m.1) i) rows) ∙ ap not (lt-ltb _ _ fewer) ∙ sym (and-false (is_touched S.edges desc rows))

  -- ---- the first user, and the first session

  user_below : (x : Cardinality) → IsTrue (contains S.ssd.cardinalities x)
      → first_user_with (with_edge S asc desc) (members_of S.ssd x.0) x.1 ≡ first_with S.edges S.assignments desc (users_with S asc) (run_of S.ssd.members x.0) x.1
  unfolding first_user_with with_edge
  user_below x there =
      least-retain name_total name_exact S.users (λ user. not (nat_lt (count (is_authorized (with_edge S asc desc) user) (members_of S.ssd x.0)) x.1))
      ∙ (λ i. find (λ user. counted user i) (members S.users))
      ∙ find_only (is_touched S.edges desc (run_of S.ssd.members x.0)) (λ user. is_reached S.edges (run_of S.assignments user) asc) (λ user. has_too_many_with S.edges (run_of S.assignments user) desc (run_of S.ssd.members x.0) x.1) (members S.users)
    where
      counted : (user : Bytes) → not (nat_lt (count (is_authorized (with_edge S asc desc) user) (members_of S.ssd x.0)) x.1)
          ≡ (is_touched S.edges desc (run_of S.ssd.members x.0)
          && (is_reached S.edges (run_of S.assignments user) asc && has_too_many_with S.edges (run_of S.assignments user) desc (run_of S.ssd.members x.0) x.1))
      counted user =
          ap (λ k. not (nat_lt k x.1)) (authorized_members_count (with_edge S asc desc) user S.ssd.members x.0)
          ∙ counted_below (run_of S.assignments user) (run_of S.ssd.members x.0) x.1
          (subst (λ k. k < x.1) (authorized_members_count S user S.ssd.members x.0) (good.static_separation x.0 user x.1 there))

  session_below : (x : Cardinality) → IsTrue (contains S.dsd.cardinalities x)
      → first_session_with (with_edge S asc desc) (members_of S.dsd x.0) x.1 ≡ first_with S.edges S.active desc (sessions_with S asc) (run_of S.dsd.members x.0) x.1
  unfolding first_session_with with_edge
  session_below x there =
      let has_asc : Pair → Bool = λ session. is_reached S.edges (run_of S.active session.0) asc in
      let too_many : Bytes → Bool = λ session. has_too_many_with S.edges (run_of S.active session) desc (run_of S.dsd.members x.0) x.1 in
      ap (option_map (λ (session : Pair). session.0))
      (least-retain pair_total pair_exact S.sessions (λ (session : Pair). not (nat_lt (count (is_session_role (with_edge S asc desc) session.0) (members_of S.dsd x.0)) x.1))
      ∙ find_agrees pair_total pair_exact _ _ (members S.sessions) (λ session is. counted session (contains-members S.sessions session ∙ is)))
      ∙ find_only_map (is_touched S.edges desc (run_of S.dsd.members x.0)) (λ (session : Pair). session.0) has_asc too_many (members S.sessions)
    where
      counted : (session : Pair) → IsTrue (contains S.sessions session)
          → not (nat_lt (count (is_session_role (with_edge S asc desc) session.0) (members_of S.dsd x.0)) x.1)
          ≡ (is_touched S.edges desc (run_of S.dsd.members x.0)
          && (is_reached S.edges (run_of S.active session.0) asc && has_too_many_with S.edges (run_of S.active session.0) desc (run_of S.dsd.members x.0) x.1))
      counted session is =
          ap (λ k. not (nat_lt k x.1)) (session_members_count (with_edge S asc desc) session.0 S.dsd.members x.0)
          ∙ counted_below (run_of S.active session.0) (run_of S.dsd.members x.0) x.1
          (subst (λ k. k < x.1) (session_members_count S session.0 S.dsd.members x.0) (good.dynamic_separation x.0 session.0 session.1 x.1 there is))

  -- ---- all sets

  after_edge : after S (AddInheritance asc desc) ≡ with_edge S asc desc
  unfolding after changed with_edge
  after_edge = none_ends_where (with_edge S asc desc) (goes_on_below S good asc desc no_back) good.well_formed.owned

  pub users_below : static_conflicts (after S (AddInheritance asc desc)) ≡ conflicts_with (first_with S.edges S.assignments desc (users_with S asc)) S.ssd.members (members S.ssd.cardinalities)
  unfolding violated_by_first with_edge
  users_below =
      ap static_conflicts after_edge
      ∙ mapped_agrees _ _ (members S.ssd.cardinalities) (λ x is. ap (option_map (λ holder. (x.0, holder))) (user_below x (contains-members S.ssd.cardinalities x ∙ is)))

  pub sessions_below : dynamic_conflicts (after S (AddInheritance asc desc)) ≡ conflicts_with (first_with S.edges S.active desc (sessions_with S asc)) S.dsd.members (members S.dsd.cardinalities)
  unfolding violated_by_first with_edge
  sessions_below =
      ap dynamic_conflicts after_edge
      ∙ mapped_agrees _ _ (members S.dsd.cardinalities) (λ x is. ap (option_map (λ holder. (x.0, holder))) (session_below x (contains-members S.dsd.cardinalities x ∙ is)))

-- ---- the refusal for separation names the first set of the list

some_user : (S : RbacState) (roles : Names) (n : ℕ) → is_some (first_user_with S roles n) ≡ not (is_kept_statically S roles n)
unfolding first_user_with is_kept_statically all
some_user S roles n =
    ap is_some (least-retain name_total name_exact S.users (λ user. not (nat_lt (count (is_authorized S user) roles) n)))
    ∙ some_fail (λ user. nat_lt (count (is_authorized S user) roles) n) (members S.users)

some_session : (S : RbacState) (roles : Names) (n : ℕ) → is_some (first_session_with S roles n) ≡ not (is_kept_dynamically S roles n)
unfolding first_session_with is_kept_dynamically all
some_session S roles n =
    is_some_map (λ (session : Pair). session.0) _
    ∙ ap is_some (least-retain pair_total pair_exact S.sessions (λ (session : Pair). not (nat_lt (count (is_session_role S session.0) roles) n)))
    ∙ some_fail (λ (session : Pair). nat_lt (count (is_session_role S session.0) roles) n) (members S.sessions)

pub static_refusal_listed : (S : RbacState) → violates_static S ≡ option_map StaticSeparation (option_map (λ (conflict : Pair). conflict.0) (slice_get (static_conflicts S) 0))
static_refusal_listed S = ap (option_map StaticSeparation) (least_is_listed (is_kept_statically S) (first_user_with S) S.ssd (some_user S))

pub dynamic_refusal_listed : (S : RbacState) → violates_dynamic S ≡ option_map DynamicSeparation (option_map (λ (conflict : Pair). conflict.0) (slice_get (dynamic_conflicts S) 0))
dynamic_refusal_listed S = ap (option_map DynamicSeparation) (least_is_listed (is_kept_dynamically S) (first_session_with S) S.dsd (some_session S))
