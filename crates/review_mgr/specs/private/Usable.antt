-- Grants that a user could use in a session.
use Rattle.std.specs.Prelude.{Bool, List, not, ◌&&◌}
use Rattle.std.specs.List.{list_any}
use Rattle.rbac_sets.specs.Sets.{Bytes, Pair, Triple, contains}
use Rattle.admin_mgr.specs.RbacState.{RbacState}
use Rattle.admin_mgr.specs.UserAccess.{stands_alone}
use Rattle.admin_mgr.specs.private.HolderRoles.{is_reached, run_of}

-- whether one of the grants is to a role that stands alone and is one of these, which are pairs (user, role), or a junior of one
abbrev pub has_usable : RbacState → List Pair → List Triple → Bool
has_usable S held granted = list_any (λ (grant : Triple). is_reached S.edges held grant.2 && stands_alone S grant.2) granted

-- whether the user isn't locked, and one of the grants is to a role that stands alone and is assigned to the user, or a junior of one
abbrev pub could_use : RbacState → Bytes → List Triple → Bool
could_use S user granted = not (contains S.locked user) && has_usable S (run_of S.assignments user) granted
