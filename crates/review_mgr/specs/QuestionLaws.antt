-- Laws of questions.
use Rattle.std.specs.Prelude.{◌≡◌, Bool, true, false, Some, None}
use Rattle.rbac_sets.specs.Sets.{Bytes}
use Rattle.rbac_sets.specs.declared.command.Command.{Command}
use Rattle.rbac_sets.specs.declared.refusal.Refusal.{Refusal}
use Rattle.rbac_sets.specs.declared.refusal.Refusal.TheVariants.{NoUser, NoRole, NoObject, NoPermission, NoOperation, NoSet, NoSession}
use Rattle.admin_mgr.specs.RbacState.{RbacState}
use Rattle.admin_mgr.specs.After.{after}
use Rattle.admin_mgr.specs.Removals.{loosens}
use Rattle.review_mgr.specs.Questions.{refused, user_refused}
use Rattle.review_mgr.specs.declared.query.Query.{Query}
use Rattle.review_mgr.specs.declared.query.Query.TheVariants.{CheckAccess}

-- whether the refusal is one of those of questions: something that the question names isn't there
abbrev pub refuses_questions : Refusal → Bool
refuses_questions NoUser = true
refuses_questions NoRole = true
refuses_questions NoObject = true
refuses_questions NoPermission = true
refuses_questions NoOperation = true
refuses_questions NoSet = true
refuses_questions NoSession = true
refuses_questions _ = false

-- no question is refused with another refusal
abbrev pub RefusalsOfQuestions : Type 0
RefusalsOfQuestions = (S : RbacState) (query : Query) (refusal : Refusal) → refused S query ≡ Some refusal → refuses_questions refusal ≡ true

-- if checkAccess is refused, it is also refused after a command that only removes or loosens
abbrev pub RemovalsKeepRefusals : Type 0
RemovalsKeepRefusals = (S : RbacState) (command : Command) (session operation object : Bytes) → loosens command ≡ true →
    refused (after S command) (CheckAccess session operation object) ≡ None → refused S (CheckAccess session operation object) ≡ None

-- and so is a decision about a user
abbrev pub RemovalsKeepUserRefusals : Type 0
RemovalsKeepUserRefusals = (S : RbacState) (command : Command) (user operation object : Bytes) → loosens command ≡ true →
    user_refused (after S command) user operation object ≡ None → user_refused S user operation object ≡ None
