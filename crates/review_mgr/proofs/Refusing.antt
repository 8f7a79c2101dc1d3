-- How questions are refused.
use Rattle.std.proofs.Common.{◌≡◌, Bool, true, false, List, [], ◌∷◌, Option, Some, None, refl, subst}
use Rattle.std.specs.Prelude.{IsTrue}
use Rattle.std.specs.List.{AllByRecursion}
use Rattle.rbac_sets.specs.Sets.{Bytes, Pair, Pairs, any, same_name}
use Rattle.rbac_sets.specs.NameOrder.{pair_total, pair_exact}
use Rattle.rbac_sets.proofs.SetLaws.{any-Decides}
use Rattle.rbac_sets.specs.declared.refusal.Refusal.{Refusal}
use Rattle.rbac_sets.specs.declared.refusal.Refusal.TheVariants.{NoUser, NoSession, NoObject, NoOperation}
use Rattle.admin_mgr.specs.RbacState.{RbacState}
use Rattle.admin_mgr.specs.Refusals.{refuse_unless, first}
use Rattle.admin_mgr.specs.After.{after}
use Rattle.admin_mgr.proofs.StateAfter.LessAccess.{GivesLess, after_less}
use Rattle.admin_mgr.proofs.StateAfter.PartLaws.{IsSubset}
use Rattle.admin_mgr.proofs.Verdicts.VerdictLaws.{passed, refuse_unless-None}
use Rattle.review_mgr.specs.Questions.{refusals, refused, user_refusals, user_refused}
use Rattle.review_mgr.specs.QuestionLaws.{refuses_questions, RefusalsOfQuestions, RemovalsKeepRefusals, RemovalsKeepUserRefusals}
use Rattle.review_mgr.specs.declared.query.Query.{Query}
use Rattle.review_mgr.specs.declared.query.Query.TheVariants.{CheckAccess, AssignedUsers, AssignedRoles, AuthorizedUsers, AuthorizedRoles, RolePermissions, UserPermissions, SessionRoles, SessionPermissions, RoleOperationsOnObject, UserOperationsOnObject, SsdRoleSets, SsdRoleSetRoles, SsdRoleSetCardinality, DsdRoleSets, DsdRoleSetRoles, DsdRoleSetCardinality, PermissionRoles}

-- none, or one that a question may be refused with
abbrev RefusesAsQuestions : Option Refusal → Type 0
RefusesAsQuestions None = Unit {0}
RefusesAsQuestions (Some refusal) = refuses_questions refusal ≡ true

wants : (b : Bool) (refusal : Refusal) → refuses_questions refusal ≡ true → RefusesAsQuestions (refuse_unless b refusal)
wants true refusal found = tt
wants false refusal found = found

first_refusals : (found : List (Option Refusal)) → AllByRecursion RefusesAsQuestions found → RefusesAsQuestions (first found)
first_refusals [] all = tt
first_refusals (None ∷ found) all = first_refusals found all.1
first_refusals (Some refusal ∷ found) all = all.0

all_refusals : (S : RbacState) (query : Query) → AllByRecursion RefusesAsQuestions (refusals S query)
unfolding refusals
all_refusals S (CheckAccess session operation object) = (wants _ _ refl, (wants _ _ refl, (wants _ _ refl, tt)))
all_refusals S (AssignedUsers role) = (wants _ _ refl, tt)
all_refusals S (AssignedRoles user) = (wants _ _ refl, tt)
all_refusals S (AuthorizedUsers role) = (wants _ _ refl, tt)
all_refusals S (AuthorizedRoles user) = (wants _ _ refl, tt)
all_refusals S (RolePermissions role) = (wants _ _ refl, tt)
all_refusals S (UserPermissions user) = (wants _ _ refl, tt)
all_refusals S (SessionRoles session) = (wants _ _ refl, tt)
all_refusals S (SessionPermissions session) = (wants _ _ refl, tt)
all_refusals S (RoleOperationsOnObject role object) = (wants _ _ refl, (wants _ _ refl, tt))
all_refusals S (UserOperationsOnObject user object) = (wants _ _ refl, (wants _ _ refl, tt))
all_refusals S SsdRoleSets = tt
all_refusals S (SsdRoleSetRoles name) = (wants _ _ refl, tt)
all_refusals S (SsdRoleSetCardinality name) = (wants _ _ refl, tt)
all_refusals S DsdRoleSets = tt
all_refusals S (DsdRoleSetRoles name) = (wants _ _ refl, tt)
all_refusals S (DsdRoleSetCardinality name) = (wants _ _ refl, tt)
all_refusals S (PermissionRoles object operation) = (wants _ _ refl, (wants _ _ refl, tt))

pub refusals_of_questions : RefusalsOfQuestions
unfolding refused
refusals_of_questions S query refusal is = subst RefusesAsQuestions is (first_refusals (refusals S query) (all_refusals S query))

-- ---- after a removal

-- what some pair of fewer passes, some pair of more does
any-fewer : (p : Pair → Bool) (part whole : Pairs) → IsSubset part whole → IsTrue (any p part) → IsTrue (any p whole)
any-fewer p part whole within h =
    let found = (any-Decides pair_total pair_exact p part).0 h in
    (any-Decides pair_total pair_exact p whole).1 (found.0, within found.0 found.1, found.2)

-- if nothing is refused for want of three things, and each of them was there before, nothing was refused
three_there : (a b c a1 b1 c1 : Bool) (x y z : Refusal) → (IsTrue a → IsTrue a1) → (IsTrue b → IsTrue b1) → (IsTrue c → IsTrue c1) →
    first (refuse_unless a x ∷ refuse_unless b y ∷ refuse_unless c z ∷ []) ≡ None → first (refuse_unless a1 x ∷ refuse_unless b1 y ∷ refuse_unless c1 z ∷ []) ≡ None
three_there a b c a1 b1 c1 x y z to_a to_b to_c none =
    let each = passed (refuse_unless a x ∷ refuse_unless b y ∷ refuse_unless c z ∷ []) none in
    let is_a = to_a (refuse_unless-None a x each.0) in
    let is_b = to_b (refuse_unless-None b y each.1.0) in
    let is_c = to_c (refuse_unless-None c z each.1.1.0) in
    λ i. first (refuse_unless (is_a i) x ∷ refuse_unless (is_b i) y ∷ refuse_unless (is_c i) z ∷ [])

pub session_refusals-less : (T S : RbacState) → GivesLess T S → (session operation object : Bytes) →
    refused T (CheckAccess session operation object) ≡ None → refused S (CheckAccess session operation object) ≡ None
unfolding refused refusals
session_refusals-less T S less session operation object =
    three_there _ _ _ _ _ _ NoSession NoObject NoOperation
    (any-fewer (λ (pair : Pair). same_name pair.0 session) T.sessions S.sessions less.sessions)
    (less.objects object)
    (any-fewer (λ (permission : Pair). same_name permission.1 operation) T.permissions S.permissions less.permissions)

pub user_refusals-less : (T S : RbacState) → GivesLess T S → (user operation object : Bytes) →
    user_refused T user operation object ≡ None → user_refused S user operation object ≡ None
unfolding user_refused user_refusals
user_refusals-less T S less user operation object =
    three_there _ _ _ _ _ _ NoUser NoObject NoOperation
    (less.users user)
    (less.objects object)
    (any-fewer (λ (permission : Pair). same_name permission.1 operation) T.permissions S.permissions less.permissions)

pub removals_keep_refusals : RemovalsKeepRefusals
removals_keep_refusals S command session operation object is = session_refusals-less (after S command) S (after_less S command is) session operation object

pub removals_keep_user_refusals : RemovalsKeepUserRefusals
removals_keep_user_refusals S command user operation object is = user_refusals-less (after S command) S (after_less S command is) user operation object
