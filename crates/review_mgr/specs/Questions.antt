-- Which questions are refused.
use Rattle.std.specs.Prelude.{Bool, List, [], ◌∷◌, Option}
use Rattle.rbac_sets.specs.Sets.{Bytes, Pair, any, same_name}
use Rattle.rbac_sets.specs.declared.refusal.Refusal.{Refusal}
use Rattle.rbac_sets.specs.declared.refusal.Refusal.TheVariants.{NoOperation, NoSet}
use Rattle.admin_mgr.specs.RbacState.{RbacState, Separation, has_set}
use Rattle.admin_mgr.specs.Refusals.{refuse_unless, first}
use Rattle.admin_mgr.specs.Verdict.{wants_user, wants_role, wants_object, wants_permission, wants_session}
use Rattle.review_mgr.specs.declared.query.Query.{Query}
use Rattle.review_mgr.specs.declared.query.Query.TheVariants.{CheckAccess, AssignedUsers, AssignedRoles, AuthorizedUsers, AuthorizedRoles, RolePermissions, UserPermissions, SessionRoles, SessionPermissions, RoleOperationsOnObject, UserOperationsOnObject, SsdRoleSets, SsdRoleSetRoles, SsdRoleSetCardinality, DsdRoleSets, DsdRoleSetRoles, DsdRoleSetCardinality, PermissionRoles}

-- OPS: whether some permission has the operation
abbrev pub has_operation : RbacState → Bytes → Bool
has_operation S operation = any (λ (permission : Pair). same_name permission.1 operation) S.permissions

-- refused if no permission has the operation
abbrev pub wants_operation : RbacState → Bytes → Option Refusal
wants_operation S operation = refuse_unless (has_operation S operation) NoOperation

-- refused if there is no separation of duty set of this name
abbrev pub wants_set : Separation → Bytes → Option Refusal
wants_set separation name = refuse_unless (has_set separation name) NoSet

-- the refusals of each question, in the order in which they are judged
unfoldable pub refusals : RbacState → Query → List (Option Refusal)
refusals S (CheckAccess session operation object) = wants_session S session ∷ wants_object S object ∷ wants_operation S operation ∷ []
refusals S (AssignedUsers role) = wants_role S role ∷ []
refusals S (AssignedRoles user) = wants_user S user ∷ []
refusals S (AuthorizedUsers role) = wants_role S role ∷ []
refusals S (AuthorizedRoles user) = wants_user S user ∷ []
refusals S (RolePermissions role) = wants_role S role ∷ []
refusals S (UserPermissions user) = wants_user S user ∷ []
refusals S (SessionRoles session) = wants_session S session ∷ []
refusals S (SessionPermissions session) = wants_session S session ∷ []
refusals S (RoleOperationsOnObject role object) = wants_role S role ∷ wants_object S object ∷ []
refusals S (UserOperationsOnObject user object) = wants_user S user ∷ wants_object S object ∷ []
refusals S SsdRoleSets = []
refusals S (SsdRoleSetRoles name) = wants_set S.ssd name ∷ []
refusals S (SsdRoleSetCardinality name) = wants_set S.ssd name ∷ []
refusals S DsdRoleSets = []
refusals S (DsdRoleSetRoles name) = wants_set S.dsd name ∷ []
refusals S (DsdRoleSetCardinality name) = wants_set S.dsd name ∷ []
refusals S (PermissionRoles object operation) = wants_object S object ∷ wants_permission S object operation ∷ []

-- the first refusal that applies; if there is none, the question is answered
unfoldable pub refused : RbacState → Query → Option Refusal
refused S query = first (refusals S query)

-- ---- a decision about a user, which isn't a question of the standard

-- the refusals of such a decision, in the order in which they are judged
unfoldable pub user_refusals : RbacState → Bytes → Bytes → Bytes → List (Option Refusal)
user_refusals S user operation object = wants_user S user ∷ wants_object S object ∷ wants_operation S operation ∷ []

unfoldable pub user_refused : RbacState → Bytes → Bytes → Bytes → Option Refusal
user_refused S user operation object = first (user_refusals S user operation object)
