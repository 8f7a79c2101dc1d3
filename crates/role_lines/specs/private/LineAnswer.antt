-- What a state and its revision are after a request and after a line, and with which text they are answered.
use Rattle.std.specs.Prelude.{◌≡◌, ◌⊎◌, ℕ, List, Ok, Err, Result, if◌then◌else◌}
use Rattle.rbac_sets.specs.Refusal.{is_memory}
use Rattle.rbac_sets.specs.declared.refusal.Refusal.{Refusal}
use Rattle.rbac_sets.specs.declared.refusal.Refusal.TheVariants.{Memory}
use Rattle.admin_mgr.specs.RbacState.{RbacState}
use Rattle.role_json.specs.RequestContent.{RequestContent}
use Rattle.role_json.specs.declared.answer.Verdict.{Verdict}
use Rattle.role_json.specs.declared.answer.Verdict.TheVariants.{Refused}
use Rattle.role_lines.specs.Outcome.{outcome_of, state_after, outcome_text, answer_to, after_line}
use Rattle.role_lines.specs.Revision.{revision_after, revision_after_line}

-- S and n are the state and the revision before, T and m those afterwards
module _ (S : RbacState) (n : ℕ) where
  -- the request was done or answered, with this text
  pub record DoesRequest (asked : RequestContent) (text : List ℕ) (T : RbacState) (m : ℕ) : Type 0 where
    pub outcome : outcome_of S asked ≡ Ok text
    pub state : T ≡ state_after S asked
    pub revision : m ≡ revision_after S asked n

  -- the request was declined, and all is as before: an allocation failed, or the request is refused
  pub record RefusesRequest (asked : RequestContent) (refusal : Refusal) (T : RbacState) (m : ℕ) : Type 0 where
    pub state : T ≡ S
    pub revision : m ≡ n
    pub cause : (refusal ≡ Memory) ⊎ (outcome_of S asked ≡ Err refusal)

  -- this text reports the outcome of the request
  pub record AnswersRequest (asked : RequestContent) (text : List ℕ) (T : RbacState) (m : ℕ) : Type 0 where
    pub text_is : text ≡ outcome_text (outcome_of S asked)
    pub state : T ≡ state_after S asked
    pub revision : m ≡ revision_after S asked n

  -- this text answers the line
  pub record AnswersLine (line text : List ℕ) (T : RbacState) (m : ℕ) : Type 0 where
    pub text_is : text ≡ answer_to S line
    pub state : T ≡ after_line S line
    pub revision : m ≡ revision_after_line S line n

  -- an allocation failed, and nothing was done
  pub record HadNoMemory (refusal : Refusal) (T : RbacState) (m : ℕ) : Type 0 where
    pub cause : refusal ≡ Memory
    pub state : T ≡ S
    pub revision : m ≡ n

-- the verdict on what was refused, unless an allocation failed
abbrev pub verdict_of_refusal : Refusal → Result Verdict Refusal
verdict_of_refusal refusal = if is_memory refusal then Err Memory else Ok (Refused refusal)
