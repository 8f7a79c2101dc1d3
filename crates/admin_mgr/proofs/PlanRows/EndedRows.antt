-- The rows of the sessions that end, and the state that removing them leads to.
use Rattle.std.proofs.Common.{◌≡◌, Bool, true, false, not, ◌&&◌, ◌||◌, List, [], ◌∷◌, refl, sym, ◌∙◌, ap, subst}
use Rattle.std.specs.Prelude.{IsTrue, filter}
use Rattle.std.specs.List.{list_any, flat_map, AllByRecursion, IsDistinct}
use Rattle.std.specs.declared.cmp.Ordering.{Ordering}
use Rattle.std.specs.Ordering.{eq_by_cmp}
use Rattle.std.specs.Cmp.{IsTotalOrder}
use Rattle.std.specs.FinMap.{IsAntisymmetric}
use Rattle.std.specs.FinSet.{FinSet}
use Rattle.std.proofs.lemmas.Bool.{and_parts, and_from, true≢false, false_from_ne_true}
use Rattle.std.proofs.Math.Bool.{and_assoc}
use Rattle.rbac_sets.specs.Sets.{Bytes, Pair, Pairs, contains, remove, retain, members, any, pair_cmp, same_name}
use Rattle.rbac_sets.specs.NameOrder.{name_total, name_exact, pair_total, pair_exact}
use Rattle.rbac_sets.proofs.SetLaws.{contains-remove, contains-retain, retain-all, any-Decides, tie_Decides, same_set}
use Rattle.rbac_sets.proofs.Members.{members-retain}
use Rattle.role_order.proofs.Members.{same_name-flips}
use Rattle.rbac_sets.specs.declared.row.Row.TheVariants.{PairRow}
use Rattle.rbac_sets.specs.declared.row.TheConstants.Row.{SESSION, ACTIVATED_ROLE}
use Rattle.rbac_sets.specs.declared.row.Change.TheVariants.{Take}
use Rattle.admin_mgr.specs.RbacState.{RbacState}
use Rattle.admin_mgr.specs.private.HolderRoles.{run_of}
use Rattle.admin_mgr.specs.Assignment.{may_go_on, end_sessions}
use Rattle.admin_mgr.specs.private.PlanChanges.{pair_row, take_all, session_rows, ended_rows}
use Rattle.admin_mgr.proofs.StateAfter.GoodWithLaws.{retain_same}
use Rattle.admin_mgr.proofs.PlanRows.StepLaws.Way.{taking}
use Rattle.admin_mgr.proofs.PlanRows.StepLaws.{Steps, steps_nothing, steps_append, steps_to}
use Rattle.admin_mgr.proofs.PlanRows.RunLaws.{remove_all, remove_all-retain, any-retain, all_two, all_of, distinct-filter, steps_take_one, steps_take_some}
use Rattle.admin_mgr.proofs.PlanRows.SetRows.{session_pair_rows, active_rows}

-- ---- retaining the members that pass a test

module _ {K : Type 0} {R : K → K → Ordering} (total : IsTotalOrder R) (exact : IsAntisymmetric R) where
  -- retaining by two tests, one after the other, is retaining by both
  pub retain-twice : (s : FinSet R) (p q : K → Bool) → retain (retain s p) q ≡ retain s (λ x. p x && q x)
  retain-twice s p q = same_set total exact _ _ (λ x. contains-retain total exact (retain s p) q x ∙ ap (λ b. b && q x) (contains-retain total exact s p x)
      ∙ and_assoc (contains s x) (p x) (q x) ∙ sym (contains-retain total exact s (λ y. p y && q y) x))

-- ---- one session

-- the state without a session and the roles that were activated in it
abbrev pub without_session : RbacState → Pair → RbacState
without_session S session = record S { sessions = remove S.sessions session; active = retain S.active (λ active. not (same_name active.0 session.0)) }

-- removing its rows leads there
pub steps_end_one : (S : RbacState) (session : Pair) → contains S.sessions session ≡ true → Steps taking S (session_rows S session) (without_session S session)
steps_end_one S session there =
    let rest : RbacState = record S { sessions = remove S.sessions session } in
    steps_append (steps_take_one session_pair_rows S session there) (steps_take_some active_rows pair_total pair_exact rest (λ active. same_name active.0 session.0))

-- ---- many sessions

-- the state without the sessions of a list and the roles that were activated in them
unfoldable without_sessions : RbacState → List Pair → RbacState
without_sessions S [] = S
without_sessions S (session ∷ sessions) = without_sessions (without_session S session) sessions

-- no two sessions of the list have the same name
abbrev HaveOwnNames : List Pair → Type 0
HaveOwnNames sessions = IsDistinct (λ (p : Pair) (q : Pair). same_name p.0 q.0) sessions

-- the activated roles of another session stay
other_run : (pairs : Pairs) (first other : Bytes) → same_name first other ≡ false → run_of (retain pairs (λ pair. not (same_name pair.0 first))) other ≡ run_of pairs other
other_run pairs first other apart =
    sym (members-retain pair_total pair_exact (retain pairs keeps) (λ pair. same_name pair.0 other))
    ∙ ap members (retain-twice pair_total pair_exact pairs keeps (λ pair. same_name pair.0 other)
    ∙ retain_same pair_total pair_exact (λ pair. keeps pair && same_name pair.0 other) (λ pair. same_name pair.0 other) pairs (λ pair there. both pair))
    ∙ members-retain pair_total pair_exact pairs (λ pair. same_name pair.0 other)
  where
    keeps : Pair → Bool
    keeps pair = not (same_name pair.0 first)

    by : (a b : Bool) → (b ≡ true → a ≡ false) → (not a && b) ≡ b
    by true true h = absurd (true≢false (h refl))
    by true false h = refl
    by false b h = refl

    both : (pair : Pair) → (not (same_name pair.0 first) && same_name pair.0 other) ≡ same_name pair.0 other
    both pair = by (same_name pair.0 first) (same_name pair.0 other) (λ same. ap (λ (n : Bytes). same_name n first) ((tie_Decides name_total name_exact pair.0 other).0 same) ∙ same_name-flips other first ∙ apart)

-- another session is still there
still_there : (S : RbacState) (session other : Pair) → same_name session.0 other.0 ≡ false → contains S.sessions other ≡ true → contains (remove S.sessions session) other ≡ true
still_there S session other apart there = contains-remove pair_total S.sessions session other ∙ and_from _ _ (ap not (false_from_ne_true (eq_by_cmp pair_cmp other session) not_one)) there
  where
    not_one : eq_by_cmp pair_cmp other session ≡ true → ⊥
    not_one tie =
        let same : other ≡ session = (tie_Decides pair_total pair_exact other session).0 tie in
        true≢false (sym ((tie_Decides name_total name_exact session.0 other.0).1 (λ i. (sym same i).0)) ∙ apart)

-- removing the rows that a list of sessions has in S, from a state M with these sessions and the same roles in each
steps_end_each : (S : RbacState) (sessions : List Pair) (M : RbacState) → HaveOwnNames sessions → AllByRecursion (λ session. contains M.sessions session ≡ true) sessions →
    AllByRecursion (λ (session : Pair). run_of S.active session.0 ≡ run_of M.active session.0) sessions → Steps taking M (flat_map (session_rows S) sessions) (without_sessions M sessions)
unfolding without_sessions IsDistinct
steps_end_each S [] M apart there alike = steps_nothing M
steps_end_each S (session ∷ sessions) M apart there alike =
    let left : RbacState = without_session M session in
    let one : Steps taking M (session_rows S session) left = subst (λ (run : List Pair). Steps taking M (Take (PairRow SESSION session.0 session.1) ∷ take_all (pair_row ACTIVATED_ROLE) run) left) (sym alike.0) (steps_end_one M session there.0) in
    steps_append one (steps_end_each S sessions left apart.1
    (all_two (λ other own h. still_there M session other own h) sessions apart.0 there.1)
    (all_two (λ (other : Pair) own same. same ∙ sym (other_run M.active session.0 other.0 own)) sessions apart.0 alike.1))

-- removed all at once: the state without these sessions and without the roles of their names
without_all : (sessions : List Pair) (S : RbacState) → without_sessions S sessions ≡ record S {
  sessions = remove_all S.sessions sessions;
  active = retain S.active (λ active. not (list_any (λ (session : Pair). same_name session.0 active.0) sessions));
}
unfolding without_sessions remove_all
without_all [] S = λ i. record S { active = sym (retain-all pair_total pair_exact S.active (λ active. true) (λ active there. refl)) i }
without_all (session ∷ sessions) S = without_all sessions (without_session S session)
    ∙ (λ i. record S { sessions = remove_all (remove S.sessions session) sessions; active = roles i })
  where
    rest : Pair → Bool
    rest active = list_any (λ (other : Pair). same_name other.0 active.0) sessions

    both : (a b : Bool) → (not a && not b) ≡ not (a || b)
    both true b = refl
    both false b = refl

    roles : retain (retain S.active (λ active. not (same_name active.0 session.0))) (λ active. not (list_any (λ (other : Pair). same_name other.0 active.0) sessions))
        ≡ retain S.active (λ active. not (same_name session.0 active.0 || list_any (λ (other : Pair). same_name other.0 active.0) sessions))
    roles = retain-twice pair_total pair_exact S.active (λ active. not (same_name active.0 session.0)) (λ active. not (rest active))
        ∙ retain_same pair_total pair_exact _ _ S.active (λ active there. ap (λ b. not b && not (rest active)) (same_name-flips active.0 session.0) ∙ both (same_name session.0 active.0) (rest active))

-- ---- the sessions that end

-- entries that one test tells apart are told apart by another, if that fails wherever the first does
distinct_by : {P : Pair → Type 0} (e f : Pair → Pair → Bool) → ((p q : Pair) → P p → P q → e p q ≡ false → f p q ≡ false) → (xs : List Pair) → AllByRecursion P xs → IsDistinct e xs → IsDistinct f xs
unfolding IsDistinct
distinct_by e f apart [] all distinct = tt
distinct_by e f apart (x ∷ xs) all distinct = (all_two (λ y there own. apart x y all.0 there own) xs all.1 distinct.0, distinct_by e f apart xs all.1 distinct.1)

module _
    (S : RbacState)
    (owned : (session role : Bytes) → IsTrue (contains S.active (session, role)) → (user : Bytes) × IsTrue (contains S.sessions (session, user)))
    (one_owner : (session user other : Bytes) → IsTrue (contains S.sessions (session, user)) → IsTrue (contains S.sessions (session, other)) → user ≡ other)
    (goes_on : Pair → Bool)
  where
    abbrev ends : Pair → Bool
    ends session = not (goes_on session)

    abbrev ended : List Pair
    ended = filter ends (members S.sessions)

    -- sessions with the same name are equal
    one_session : (p q : Pair) → IsTrue (contains S.sessions p) → IsTrue (contains S.sessions q) → p.0 ≡ q.0 → p ≡ q
    one_session p q here there same =
        let user : p.1 ≡ q.1 = one_owner q.0 p.1 q.1 (subst (λ (name : Bytes). IsTrue (contains S.sessions (name, p.1))) same here) there in
        λ i. (same i, user i)

    -- each of them is a session and ends
    ended_are : (p : Pair) → list_any (eq_by_cmp pair_cmp p) ended ≡ true → IsTrue (contains S.sessions p) × IsTrue (ends p)
    ended_are p h = and_parts _ _ (sym (any-retain pair_total pair_exact S.sessions ends p) ∙ h)

    -- all of them are there
    there_all : AllByRecursion (λ session. contains S.sessions session ≡ true) ended
    there_all = all_of pair_total pair_exact _ _ (λ p h. (ended_are p h).0)

    -- each has a name of its own
    own_names : HaveOwnNames ended
    own_names = distinct_by (eq_by_cmp pair_cmp) (λ (p : Pair) (q : Pair). same_name p.0 q.0)
        (λ p q here there apart. false_from_ne_true (same_name p.0 q.0) (λ same. true≢false (sym ((tie_Decides pair_total pair_exact p q).1 (one_session p q here there ((tie_Decides name_total name_exact p.0 q.0).0 same))) ∙ apart)))
        ended there_all (distinct-filter pair_total pair_exact S.sessions ends)

    -- no session of the role's name ends exactly if the role's session goes on
    stays : (active : Pair) → IsTrue (contains S.active active) →
        not (list_any (λ (session : Pair). same_name session.0 active.0) ended) ≡ any (λ (session : Pair). same_name session.0 active.0 && goes_on session) S.sessions
    unfolding any
    stays active there = by (goes_on owner) refl
      where
        owner : Pair
        owner = (active.0, (owned active.0 active.1 there).0)

        known : IsTrue (contains S.sessions owner)
        known = (owned active.0 active.1 there).1

        own : same_name active.0 active.0 ≡ true
        own = (tie_Decides name_total name_exact active.0 active.0).1 refl

        named : Pair → Bool
        named session = same_name session.0 active.0

        -- some session of the name ends
        one_ends : list_any named ended ≡ any named (retain S.sessions ends)
        one_ends = ap (list_any named) (sym (members-retain pair_total pair_exact S.sessions ends))

        is_owner : (session : Pair) → IsTrue (contains S.sessions session) → named session ≡ true → session ≡ owner
        is_owner session here same = one_session session owner here known ((tie_Decides name_total name_exact session.0 active.0).0 same)

        by : (b : Bool) → goes_on owner ≡ b → not (list_any named ended) ≡ any (λ (session : Pair). named session && goes_on session) S.sessions
        by true is = ap not (false_from_ne_true (list_any named ended) (λ h.
            let found = (any-Decides pair_total pair_exact named (retain S.sessions ends)).0 (sym one_ends ∙ h) in
            let parts = and_parts _ _ (sym (contains-retain pair_total pair_exact S.sessions ends found.0) ∙ found.1) in
            true≢false (sym parts.1 ∙ ap ends (is_owner found.0 parts.0 found.2) ∙ ap not is)))
            ∙ sym ((any-Decides pair_total pair_exact (λ (session : Pair). named session && goes_on session) S.sessions).1 (owner, known, and_from _ _ own is))
        by false is = ap not (one_ends ∙ (any-Decides pair_total pair_exact named (retain S.sessions ends)).1 (owner, contains-retain pair_total pair_exact S.sessions ends owner ∙ and_from _ _ known (ap not is), own))
            ∙ sym (false_from_ne_true (any (λ (session : Pair). named session && goes_on session) S.sessions) (λ h.
            let found = (any-Decides pair_total pair_exact (λ (session : Pair). named session && goes_on session) S.sessions).0 h in
            let parts = and_parts _ _ found.2 in
            true≢false (sym parts.1 ∙ ap goes_on (is_owner found.0 found.1 parts.0) ∙ is)))

    -- Removing the rows of the sessions that end leads to the state without these sessions and without the roles that were
    -- activated in them.
    pub steps_ended : Steps taking S (ended_rows S goes_on) (record S {
      sessions = retain S.sessions goes_on;
      active = retain S.active (λ active. any (λ session. same_name session.0 active.0 && goes_on session) S.sessions);
    })
    steps_ended = steps_to (steps_end_each S ended S own_names there_all (all_of pair_total pair_exact _ _ (λ p h. refl))) (without_all ended S ∙ (λ i. record S { sessions = sessions i; active = active i }))
      where
        twice : (b : Bool) → not (not b) ≡ b
        twice true = refl
        twice false = refl

        sessions : remove_all S.sessions ended ≡ retain S.sessions goes_on
        sessions = remove_all-retain pair_total pair_exact S.sessions ends ∙ retain_same pair_total pair_exact _ _ S.sessions (λ session there. twice (goes_on session))

        active : retain S.active (λ active. not (list_any (λ (session : Pair). same_name session.0 active.0) ended)) ≡ retain S.active (λ active. any (λ session. same_name session.0 active.0 && goes_on session) S.sessions)
        active = retain_same pair_total pair_exact _ _ S.active stays

-- removing the rows of the sessions that may not go on leads to the state in which they have ended
pub steps_end_sessions :
    (S : RbacState)
    → ((session role : Bytes) → IsTrue (contains S.active (session, role)) → (user : Bytes) × IsTrue (contains S.sessions (session, user)))
    → ((session user other : Bytes) → IsTrue (contains S.sessions (session, user)) → IsTrue (contains S.sessions (session, other)) → user ≡ other)
    → Steps taking S (ended_rows S (may_go_on S)) (end_sessions S)
unfolding end_sessions
steps_end_sessions S owned one_owner = steps_ended S owned one_owner (may_go_on S)

-- tests that agree on the sessions end the same ones
pub ended_rows-same : (S : RbacState) (p q : Pair → Bool) → ((session : Pair) → IsTrue (contains S.sessions session) → p session ≡ q session) → ended_rows S p ≡ ended_rows S q
ended_rows-same S p q same = ap (flat_map (session_rows S)) (sym (members-retain pair_total pair_exact S.sessions (λ session. not (p session)))
    ∙ ap members (retain_same pair_total pair_exact _ _ S.sessions (λ session there. ap not (same session there)))
    ∙ members-retain pair_total pair_exact S.sessions (λ session. not (q session)))
