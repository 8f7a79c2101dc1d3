-- The verdict on a command, the state after it and its tally, as functions of what the command asks for.
use Rattle.std.specs.Prelude.{◌≡◌, [], ◌∷◌, length, Option}
use Rattle.rbac_sets.specs.CommandContent.{CommandContent, Single, Import, content_of}
use Rattle.rbac_sets.specs.declared.command.Command.{Command}
use Rattle.rbac_sets.specs.declared.kind.Kind.TheVariants.{Record}
use Rattle.rbac_sets.specs.declared.refusal.Refusal.{Refusal}
use Rattle.admin_mgr.specs.RbacState.{RbacState}
use Rattle.admin_mgr.specs.Refusals.{first, too_many}
use Rattle.admin_mgr.specs.Assignment.{Tally, tally_of, import_verdicts, after_import, end_sessions}
use Rattle.admin_mgr.specs.After.{after}
use Rattle.admin_mgr.specs.Verdict.{verdict}
use Rattle.admin_mgr.specs.Run.{tally}

-- the verdict on what is asked for
unfoldable pub content_verdict : RbacState → CommandContent → Option Refusal
content_verdict S (Single command) = verdict S command
content_verdict S (Import pairs) = first (too_many S Record (length pairs) ∷ [])

-- the state after it, if it is accepted
unfoldable pub content_after : RbacState → CommandContent → RbacState
content_after S (Single command) = after S command
content_after S (Import pairs) = end_sessions (after_import S pairs)

-- its tally, if it is accepted
unfoldable pub content_tally : RbacState → CommandContent → Tally
content_tally S (Single command) = tally S command
content_tally S (Import pairs) = tally_of (import_verdicts S pairs)

-- the verdict on a command, the state after it and its tally depend only on what it asks for
pub record DependsOnContent (S : RbacState) (command : Command) : Type 0 where
  pub verdict_is : verdict S command ≡ content_verdict S (content_of command)
  pub after_is : after S command ≡ content_after S (content_of command)
  pub tally_is : tally S command ≡ content_tally S (content_of command)

abbrev pub CommandsDependOnContent : Type 0
CommandsDependOnContent = (S : RbacState) (command : Command) → DependsOnContent S command
