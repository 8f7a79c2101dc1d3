-- Decisions by the rows of an index.
use Rattle.std.specs.Prelude.{◌≡◌, ◌⊎◌, ◌&&◌, Bool, false, not, None}
use Rattle.rbac_sets.specs.Sets.{Bytes, contains}
use Rattle.admin_mgr.specs.RbacState.{RbacState}
use Rattle.admin_mgr.specs.Authorization.{has_access}
use Rattle.admin_mgr.specs.UserAccess.{could_have_access}
use Rattle.review_mgr.specs.Questions.{refused, user_refused}
use Rattle.review_mgr.specs.declared.query.Query.TheVariants.{CheckAccess}

-- the question whether the session has access isn't refused, and this is its answer
pub record IsDecision (S : RbacState) (session operation object : Bytes) (access : Bool) : Type 0 where
  pub unrefused : refused S (CheckAccess session operation object) ≡ None
  pub access_is : access ≡ has_access S session operation object

-- no role was activated in the session, or the permission is granted to none
abbrev pub HasNothing : RbacState → Bytes → Bytes → Bytes → Type 0
HasNothing S session operation object =
    ((role : Bytes) → contains S.active (session, role) ≡ false) ⊎ ((role : Bytes) → contains S.grants (object, operation, role) ≡ false)

-- the decision about the user isn't refused, and this is its answer if the user isn't locked
pub record IsUserDecision (S : RbacState) (user operation object : Bytes) (usable : Bool) : Type 0 where
  pub unrefused : user_refused S user operation object ≡ None
  pub access_is : could_have_access S user operation object ≡ (not (contains S.locked user) && usable)

-- no role is assigned to the user, or the permission is granted to none
abbrev pub HasNothingAssigned : RbacState → Bytes → Bytes → Bytes → Type 0
HasNothingAssigned S user operation object =
    ((role : Bytes) → contains S.assignments (user, role) ≡ false) ⊎ ((role : Bytes) → contains S.grants (object, operation, role) ≡ false)
