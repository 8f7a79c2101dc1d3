-- Lines run the commands that they ask for.
use Rattle.std.proofs.Common.{◌≡◌, ℕ, List, [], ◌∷◌, map, Option, Some, None, Result, Ok, Err, refl, sym, ap, subst, ◌∙◌}
use Rattle.std.specs.List.{cons_option}
use Rattle.rbac_sets.specs.CommandContent.{CommandContent, content_of}
use Rattle.rbac_sets.specs.declared.command.Command.{Command}
use Rattle.rbac_sets.specs.declared.refusal.Refusal.{Refusal}
use Rattle.admin_mgr.specs.CommandContent.{content_verdict, content_tally, DependsOnContent}
use Rattle.admin_mgr.specs.Assignment.{Tally}
use Rattle.admin_mgr.specs.RbacState.{RbacState}
use Rattle.admin_mgr.specs.Run.{next, run, verdicts}
use Rattle.admin_mgr.specs.Verdict.{verdict}
use Rattle.admin_mgr.proofs.Verdicts.AskedLaws.{commands_go_by_asked}
use Rattle.role_json.specs.Request.{request}
use Rattle.role_json.specs.RequestContent.{RequestContent, Change, Ask}
use Rattle.role_wire.specs.Outcome.{accepted_text, unless, outcome_text, outcome_of, state_after, after_reading, answer_to, after_line, answers_to, after_lines}
use Rattle.role_wire.specs.LineCommands.{command_read, commands_in, command_answers, AskFor, ReportsVerdict, ReportVerdicts, LinesRunCommands, LinesReportVerdicts, LinesRunAsked, CommandsRunAsked, asked_next, asked_run}

-- a command that asks for the same as a request leads to the same state
leads : (S : RbacState) (command : Command) (asked : CommandContent) → content_of command ≡ asked → state_after S (Change asked) ≡ next S command
unfolding state_after next
leads S command asked same =
    let law : DependsOnContent S command = commands_go_by_asked S command in
    subst (λ a. state_after S (Change a) ≡ next S command) same (rw (law.verdict_is, law.after_is) refl)

-- ---- the state

-- after the result of reading the first line
run_read : (S : RbacState) (read : Result RequestContent Refusal) (lines : List (List ℕ)) → ((T : RbacState) (commands : List Command) → AskFor lines commands → after_lines T lines ≡ run T commands)
    → (commands : List Command) → map content_of commands ≡ cons_option (command_read read) (commands_in lines) → after_lines (after_reading S read) lines ≡ run S commands
unfolding state_after run
run_read S (Ok (Change asked)) lines later [] same = absurd (cc)
run_read S (Ok (Change asked)) lines later (command ∷ commands) same =
    let first : content_of command ≡ asked = cc in
    let rest : map content_of commands ≡ commands_in lines = cc in
    ap (λ T. after_lines T lines) (leads S command asked first) ∙ later (next S command) commands rest
run_read S (Ok (Ask query)) lines later commands same = later S commands same
run_read S (Err refusal) lines later commands same = later S commands same

pub lines_run_commands : LinesRunCommands
unfolding after_lines after_line run
lines_run_commands S [] [] same = refl
lines_run_commands S [] (command ∷ commands) same = absurd (cc)
lines_run_commands S (line ∷ lines) commands same = run_read S (request line) lines (λ T commands same. lines_run_commands T lines commands same) commands same

-- ---- the answers

tells_unless : (told : Option Refusal) (asked : CommandContent) (tally : Tally) → ReportsVerdict asked told (outcome_text (unless told (accepted_text asked tally)))
tells_unless None asked tally = (tally, refl)
tells_unless (Some refusal) asked tally = refl

-- the answer to a command reports the verdict
tells : (S : RbacState) (command : Command) (asked : CommandContent) → content_of command ≡ asked → ReportsVerdict asked (verdict S command) (outcome_text (outcome_of S (Change asked)))
unfolding outcome_of
tells S command asked same = subst (λ v. ReportsVerdict asked v (outcome_text (outcome_of S (Change asked)))) (sym ((commands_go_by_asked S command).verdict_is ∙ ap (content_verdict S) same))
    (tells_unless (content_verdict S asked) asked (content_tally S asked))

-- after the result of reading the first line
verdicts_read : (S : RbacState) (line : List ℕ) (read : Result RequestContent Refusal) (lines : List (List ℕ)) → request line ≡ read
    → ((T : RbacState) (commands : List Command) → AskFor lines commands → ReportVerdicts (commands_in lines) (verdicts T commands) (command_answers T lines))
    → (commands : List Command) → map content_of commands ≡ cons_option (command_read read) (commands_in lines) → ReportVerdicts (commands_in (line ∷ lines)) (verdicts S commands) (command_answers S (line ∷ lines))
unfolding verdicts answers_to answer_to after_line state_after
verdicts_read S line (Ok (Change asked)) lines is later [] same = absurd (cc)
verdicts_read S line (Ok (Change asked)) lines is later (command ∷ commands) same =
    let first : content_of command ≡ asked = cc in
    let rest : map content_of commands ≡ commands_in lines = cc in
    rw is (tells S command asked first, subst (λ T. ReportVerdicts (commands_in lines) (verdicts (next S command) commands) (command_answers T lines)) (sym (leads S command asked first)) (later (next S command) commands rest))
verdicts_read S line (Ok (Ask query)) lines is later commands same = rw is (later S commands same)
verdicts_read S line (Err refusal) lines is later commands same = rw is (later S commands same)

pub lines_tell_verdicts : LinesReportVerdicts
unfolding verdicts answers_to
lines_tell_verdicts S [] [] same = tt
lines_tell_verdicts S [] (command ∷ commands) same = absurd (cc)
lines_tell_verdicts S (line ∷ lines) commands same = verdicts_read S line (request line) lines refl (λ T commands same. lines_tell_verdicts T lines commands same) commands same

-- ---- what is asked for

asked_read : (S : RbacState) (read : Result RequestContent Refusal) (lines : List (List ℕ)) → ((T : RbacState) → after_lines T lines ≡ asked_run T (commands_in lines))
    → after_lines (after_reading S read) lines ≡ asked_run S (cons_option (command_read read) (commands_in lines))
unfolding state_after asked_run asked_next
asked_read S (Ok (Change asked)) lines later = later (asked_next S asked)
asked_read S (Ok (Ask query)) lines later = later S
asked_read S (Err refusal) lines later = later S

pub lines_run_asked : LinesRunAsked
unfolding after_lines after_line asked_run
lines_run_asked S [] = refl
lines_run_asked S (line ∷ lines) = asked_read S (request line) lines (λ T. lines_run_asked T lines)

same_next : (S : RbacState) (command : Command) → next S command ≡ asked_next S (content_of command)
unfolding next asked_next
same_next S command =
    let law : DependsOnContent S command = commands_go_by_asked S command in
    rw (law.verdict_is, law.after_is) refl

pub commands_run_asked : CommandsRunAsked
unfolding run asked_run
commands_run_asked S [] = refl
commands_run_asked S (command ∷ commands) = commands_run_asked (next S command) commands ∙ ap (λ T. asked_run T (map content_of commands)) (same_next S command)
