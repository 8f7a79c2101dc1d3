-- Which sessions end: none of a good state.
use Rattle.std.proofs.Common.{◌≡◌, false, not, refl, ap}
use Rattle.std.specs.Prelude.{IsTrue, ◌&&◌}
use Rattle.std.proofs.lemmas.Bool.{and_parts, and_from, not-true}
use Rattle.rbac_sets.specs.Sets.{Bytes, Pair, contains, any, same_name}
use Rattle.rbac_sets.specs.NameOrder.{name_total, name_exact, pair_total, pair_exact}
use Rattle.rbac_sets.proofs.SetLaws.{any-Decides, all-Decides, seconds-Decides, retain-all, tie_Decides}
use Rattle.admin_mgr.specs.RbacState.{RbacState, active_roles}
use Rattle.admin_mgr.specs.Authorization.{is_authorized}
use Rattle.admin_mgr.specs.Assignment.{may_go_on, end_sessions}
use Rattle.admin_mgr.specs.Good.{IsGood}

-- a session that may go on has a user who is there, is not locked, and is authorized for what was activated in it
pub goes_on_parts : (S : RbacState) (p : Pair) → IsTrue (may_go_on S p) →
    IsTrue (contains S.users p.1) × (contains S.locked p.1 ≡ false) × ((role : Bytes) → IsTrue (contains S.active (p.0, role)) → IsTrue (is_authorized S p.1 role))
unfolding may_go_on
goes_on_parts S p h =
    let parts = and_parts _ _ h in
    let first = and_parts _ _ parts.0 in
    (first.0, not-true _ first.1, λ role active. (all-Decides name_total name_exact (is_authorized S p.1) (active_roles S p.0)).0 parts.1 role ((seconds-Decides S.active p.0 role).1 active))

-- a session of a good state may go on
pub goes_on : (S : RbacState) → IsGood S → (p : Pair) → IsTrue (contains S.sessions p) → IsTrue (may_go_on S p)
unfolding may_go_on
goes_on S good p there = and_from _ _ (and_from _ _ (good.well_formed.sessions p.0 p.1 there) (ap not (good.unlocked p.0 p.1 there)))
    ((all-Decides name_total name_exact (is_authorized S p.1) (active_roles S p.0)).1 (λ role active.
    good.authorized p.0 p.1 role there ((seconds-Decides S.active p.0 role).0 active)))

-- if each session may go on, and each activated role belongs to a session, none ends
pub none_ends_where : (S : RbacState) → ((p : Pair) → IsTrue (contains S.sessions p) → IsTrue (may_go_on S p)) →
    ((session role : Bytes) → IsTrue (contains S.active (session, role)) → (user : Bytes) × IsTrue (contains S.sessions (session, user))) → end_sessions S ≡ S
unfolding end_sessions
none_ends_where S each owned =
    let owners = retain-all pair_total pair_exact S.sessions (may_go_on S) each in
    let roles = retain-all pair_total pair_exact S.active (λ active. any (λ session. same_name session.0 active.0 && may_go_on S session) S.sessions) (λ p there.
    let owner = owned p.0 p.1 there in
    (any-Decides pair_total pair_exact (λ (session : Pair). same_name session.0 p.0 && may_go_on S session) S.sessions).1
    ((p.0, owner.0), owner.1, and_from _ _ ((tie_Decides name_total name_exact p.0 p.0).1 refl) (each (p.0, owner.0) owner.1))) in
    λ i. record S { sessions = owners i; active = roles i }

-- no session of a good state ends
pub none_ends : (S : RbacState) → IsGood S → end_sessions S ≡ S
none_ends S good = none_ends_where S (goes_on S good) good.well_formed.owned
