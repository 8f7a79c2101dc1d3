-- The commands that lines ask for, in order.
use Rattle.std.specs.Prelude.{◌≡◌, ℕ, Bool, true, false, List, [], ◌∷◌, map, filter, filter_map, zip, Option, Some, None, is_some, is_none, if◌then◌else◌, Result, Ok, Err}
use Rattle.std.specs.List.{list_any}
use Rattle.rbac_sets.specs.CommandContent.{CommandContent, Single, Import, content_of}
use Rattle.rbac_sets.specs.declared.command.Command.{Command}
use Rattle.rbac_sets.specs.declared.refusal.Refusal.{Refusal}
use Rattle.admin_mgr.specs.CommandContent.{content_verdict, content_after}
use Rattle.admin_mgr.specs.Assignment.{Tally}
use Rattle.admin_mgr.specs.RbacState.{RbacState}
use Rattle.admin_mgr.specs.Run.{run, verdicts}
use Rattle.role_json.specs.Answer.{refusal_text}
use Rattle.role_json.specs.Request.{request}
use Rattle.role_json.specs.RequestContent.{RequestContent, Change, Ask}
use Rattle.role_wire.specs.Outcome.{accepted_text, answers_to, after_lines}

-- the command that was read, if one was
abbrev pub command_read : Result RequestContent Refusal → Option CommandContent
command_read (Ok (Change asked)) = Some asked
command_read (Ok (Ask query)) = None
command_read (Err refusal) = None

-- the command that the line asks for, if it asks for one
abbrev pub line_command : List ℕ → Option CommandContent
line_command line = command_read (request line)

-- the commands that the lines ask for, in the order of the lines
abbrev pub commands_in : List (List ℕ) → List CommandContent
commands_in lines = filter_map line_command lines

-- the answers to the lines that ask for a command
abbrev pub command_answers : RbacState → List (List ℕ) → List (List ℕ)
command_answers S lines = map (λ (answer : List ℕ × List ℕ). answer.1) (filter (λ answer. is_some (line_command answer.0)) (zip lines (answers_to S lines)))

-- these commands are those that the lines ask for
abbrev pub AskFor : List (List ℕ) → List Command → Type 0
AskFor lines commands = map content_of commands ≡ commands_in lines

-- the text reports the verdict on the command: its refusal, or that it was accepted, for an import with a tally of its records
abbrev pub ReportsVerdict : CommandContent → Option Refusal → List ℕ → Type 0
ReportsVerdict asked (Some refusal) text = text ≡ refusal_text refusal
ReportsVerdict asked None text = (tally : Tally) × (text ≡ accepted_text asked tally)

-- each text reports the verdict at the same place, and there are as many texts as verdicts
abbrev pub ReportVerdicts : List CommandContent → List (Option Refusal) → List (List ℕ) → Type 0
ReportVerdicts [] [] [] = Unit {0}
ReportVerdicts (asked ∷ more) (told ∷ verdicts) (text ∷ texts) = ReportsVerdict asked told text × ReportVerdicts more verdicts texts
ReportVerdicts _ _ _ = ⊥

-- the state after a command was judged: a refused command doesn't change it
unfoldable pub asked_next : RbacState → CommandContent → RbacState
asked_next S asked = if is_none (content_verdict S asked) then content_after S asked else S

-- the state after each was judged, in this order
unfoldable pub asked_run : RbacState → List CommandContent → RbacState
asked_run S [] = S
asked_run S (asked ∷ more) = asked_run (asked_next S asked) more

-- the state after lines is the state after the commands that they ask for, imports included
abbrev pub LinesRunAsked : Type 0
LinesRunAsked = (S : RbacState) (lines : List (List ℕ)) → after_lines S lines ≡ asked_run S (commands_in lines)

-- and the state after commands is the state after what these ask for
abbrev pub CommandsRunAsked : Type 0
CommandsRunAsked = (S : RbacState) (commands : List Command) → run S commands ≡ asked_run S (map content_of commands)

-- the state after lines is the state after the commands that they ask for
abbrev pub LinesRunCommands : Type 0
LinesRunCommands = (S : RbacState) (lines : List (List ℕ)) (commands : List Command) → AskFor lines commands → after_lines S lines ≡ run S commands

-- and the lines that ask for a command are answered with the verdicts on these commands
abbrev pub LinesReportVerdicts : Type 0
LinesReportVerdicts = (S : RbacState) (lines : List (List ℕ)) (commands : List Command) → AskFor lines commands → ReportVerdicts (commands_in lines) (verdicts S commands) (command_answers S lines)

-- the command is an import
abbrev pub is_import : CommandContent → Bool
is_import (Single command) = false
is_import (Import pairs) = true

-- such commands exist if the lines ask for no import
abbrev pub LinesHaveCommands : Type 0
LinesHaveCommands = (lines : List (List ℕ)) → list_any is_import (commands_in lines) ≡ false → (commands : List Command) × AskFor lines commands
