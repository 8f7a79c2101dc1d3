-- What a user could do in some session.
use Rattle.std.specs.Prelude.{Bool, not, ◌&&◌, nat_lt}
use Rattle.rbac_sets.specs.Sets.{Bytes, Cardinality, any, all, contains, count}
use Rattle.role_order.specs.Order.{geq}
use Rattle.admin_mgr.specs.RbacState.{RbacState, members_of}
use Rattle.admin_mgr.specs.Authorization.{authorized_roles}

-- whether the role and its juniors are fewer roles of each dynamic set than its cardinality
unfoldable pub stands_alone : RbacState → Bytes → Bool
stands_alone S role = all (λ (entry : Cardinality). nat_lt (count (geq S.edges role) (members_of S.dsd entry.0)) entry.1) S.dsd.cardinalities

-- whether the user isn't locked, and is authorized for a role that has the permission and violates no dynamic set alone
unfoldable pub could_have_access : RbacState → Bytes → Bytes → Bytes → Bool
could_have_access S user operation object =
    not (contains S.locked user) && any (λ role. contains S.grants (object, operation, role) && stands_alone S role) (authorized_roles S user)
