-- The roles for which a user is authorized, and those of a session, are roles that are there.
use Rattle.std.proofs.Common.{◌≡◌, Bool, true, false, ◌&&◌, refl, sym, ◌∙◌}
use Rattle.std.specs.Prelude.{IsTrue}
use Rattle.std.proofs.lemmas.Bool.{and_parts}
use Rattle.rbac_sets.specs.Sets.{Bytes, Pair, contains, retain, seconds}
use Rattle.rbac_sets.specs.NameOrder.{name_total, name_exact, pair_total, pair_exact}
use Rattle.rbac_sets.proofs.SetLaws.{contains-retain, image-Decides, any-Decides, seconds-Decides}
use Rattle.role_order.specs.Order.{geq, HasPair, Leads}
use Rattle.role_order.specs.Order.Leads.{here, step}
use Rattle.role_order.proofs.Deciding.{geq-Decides}
use Rattle.admin_mgr.specs.RbacState.{RbacState}
use Rattle.admin_mgr.specs.Authorization.{authorized_users, authorized_roles, is_authorized, session_roles, is_session_role}
use Rattle.admin_mgr.specs.Good.{IsWellFormed}
use Rattle.admin_mgr.specs.Laws.{AuthorizedRolesAreThere, SessionRolesAreThere}

module _ (S : RbacState) (formed : IsWellFormed S) where
  -- what a role dominates is a role
  role_below : (a b : Bytes) → IsTrue (contains S.roles a) → Leads (HasPair S.edges) a b → IsTrue (contains S.roles b)
  role_below a b is_role here = is_role
  role_below a b is_role (step edge rest) = role_below _ b (formed.edges a _ edge).1 rest

  -- users are only authorized for roles
  authorized_role : (user role : Bytes) → IsTrue (is_authorized S user role) → IsTrue (contains S.roles role)
  unfolding authorized_users
  authorized_role user role h =
      let test : Pair → Bool = λ a. geq S.edges a.1 role in
      let found = (image-Decides pair_total pair_exact name_total name_exact (λ (a : Pair). a.0) (retain S.assignments test) user).0 h in
      let parts = and_parts _ _ (sym (contains-retain pair_total pair_exact S.assignments test found.0) ∙ found.1) in
      role_below found.0.1 role (formed.assignments found.0.0 found.0.1 parts.0).1 ((geq-Decides S.edges found.0.1 role).0 parts.1)

  -- sessions only have roles
  session_role : (session role : Bytes) → IsTrue (is_session_role S session role) → IsTrue (contains S.roles role)
  session_role session role h =
      let found = (any-Decides name_total name_exact (λ active. geq S.edges active role) (seconds S.active session)).0 h in
      role_below found.0 role (formed.active session found.0 ((seconds-Decides S.active session found.0).0 found.1)) ((geq-Decides S.edges found.0 role).0 found.2)

-- a conjunction with a test that the other implies is the other
implied : (a b : Bool) → (IsTrue b → IsTrue a) → (a && b) ≡ b
implied true b h = refl
implied false true h = h refl
implied false false h = refl

pub authorized_roles_are_there : AuthorizedRolesAreThere
unfolding authorized_roles
authorized_roles_are_there S formed user role =
    contains-retain name_total name_exact S.roles (is_authorized S user) role ∙ implied _ _ (authorized_role S formed user role)

pub session_roles_are_there : SessionRolesAreThere
unfolding session_roles
session_roles_are_there S formed session role =
    contains-retain name_total name_exact S.roles (is_session_role S session) role ∙ implied _ _ (session_role S formed session role)
