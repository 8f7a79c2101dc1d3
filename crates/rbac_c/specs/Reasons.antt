-- What a call from C returns that says why a user or a session may have access, or why not.
use Rattle.std.specs.Prelude.{◌≡◌, ◌⊎◌, ℕ, List, [], Option, Some, None}
use Rattle.rbac_sets.specs.Refusal.{code_of}
use Rattle.rbac_sets.specs.declared.refusal.Refusal.{Refusal}
use Rattle.admin_mgr.specs.RbacState.{RbacState}
use Rattle.review_mgr.specs.Questions.{refused, user_refused}
use Rattle.review_mgr.specs.declared.query.Query.TheVariants.{CheckAccess}
use Rattle.explanations.specs.SessionReasons.{IsSessionReason, SessionReasonContent, UngrantedContent, InactiveContent, ActiveContent}
use Rattle.explanations.specs.UserReasons.{IsUserReason, UserReasonContent, LockedContent, NotGrantedContent, NotAuthorizedContent, SeparatedContent, AllowedContent}
use Rattle.role_lines.specs.Decision.{Refuses, RefusesUser}
use Rattle.role_lines.specs.OfficeInMemory.{OfficeInMemory}
use Rattle.role_lines.specs.StoredRow.{Parts, parts}
use Rattle.rbac_c.specs.Calls.{Buffers, CopiesParts}
use Rattle.rbac_c.specs.declared.calls.RowLengths.{RowLengths}
use Rattle.rbac_c.specs.Results.{closed}

-- ---- the numbers of the reasons, those of a user's and of a session's together

abbrev pub allowed : ℕ
allowed = 1

abbrev pub locked : ℕ
locked = 2

abbrev pub not_granted : ℕ
not_granted = 3

abbrev pub not_authorized : ℕ
not_authorized = 4

abbrev pub separated : ℕ
separated = 5

abbrev pub not_active : ℕ
not_active = 6

-- ---- about a user

-- the names of a reason, and its number
abbrev pub reason_parts : UserReasonContent → Parts
reason_parts (AllowedContent assigned granted) = parts assigned granted [] allowed
reason_parts LockedContent = parts [] [] [] locked
reason_parts NotGrantedContent = parts [] [] [] not_granted
reason_parts NotAuthorizedContent = parts [] [] [] not_authorized
reason_parts (SeparatedContent role set) = parts role set [] separated

-- the question isn't refused, and this is the reason
pub record HasUserReason (S : RbacState) (user operation object : List ℕ) (reason : UserReasonContent) : Type 0 where
  pub unrefused : user_refused S user operation object ≡ None
  pub reason_is : IsUserReason S user operation object reason

-- the reason is copied, or the question is refused
abbrev pub ExplainsUser : Option OfficeInMemory → List ℕ → List ℕ → List ℕ → (before now : Buffers RowLengths) → ℕ → Type 0
ExplainsUser None user operation object before now code = (code ≡ closed) × (now ≡ before)
ExplainsUser (Some office) user operation object before now code =
    ((reason : UserReasonContent) × (HasUserReason office.facts user operation object reason × CopiesParts (reason_parts reason) before now code))
    ⊎ ((refusal : Refusal) × (RefusesUser office.facts user operation object refusal × ((code ≡ code_of refusal) × (now ≡ before))))

-- ---- about a session

-- the names of a reason, and its number
abbrev pub session_reason_parts : SessionReasonContent → Parts
session_reason_parts (ActiveContent active granted) = parts active granted [] allowed
session_reason_parts UngrantedContent = parts [] [] [] not_granted
session_reason_parts InactiveContent = parts [] [] [] not_active

-- the question isn't refused, and this is the reason
pub record HasSessionReason (S : RbacState) (session operation object : List ℕ) (reason : SessionReasonContent) : Type 0 where
  pub unrefused : refused S (CheckAccess session operation object) ≡ None
  pub reason_is : IsSessionReason S session operation object reason

-- the reason is copied, or the question is refused
abbrev pub ExplainsSession : Option OfficeInMemory → List ℕ → List ℕ → List ℕ → (before now : Buffers RowLengths) → ℕ → Type 0
ExplainsSession None session operation object before now code = (code ≡ closed) × (now ≡ before)
ExplainsSession (Some office) session operation object before now code =
    ((reason : SessionReasonContent) × (HasSessionReason office.facts session operation object reason × CopiesParts (session_reason_parts reason) before now code))
    ⊎ ((refusal : Refusal) × (Refuses office.facts session operation object refusal × ((code ≡ code_of refusal) × (now ≡ before))))
