-- The lines of a run that were acknowledged: their commands are among its events, and what they removed stays removed.
use Rattle.std.proofs.Common.{◌≡◌, ◌≢◌, ◌∙◌, ℕ, List, [], ◌∷◌, ◌++◌, Option, Some, None, Result, Ok, Err, append_assoc, arith, refl, sym, ap, subst}
use Rattle.std.specs.Prelude.{◌&&◌, Bool, true, false, All}
use Rattle.std.proofs.lemmas.Bool.{true≢false}
use Rattle.json.specs.Print.{escape_byte}
use Rattle.sqlite.specs.Recovery.{Image}
use Rattle.rbac_sets.specs.Sets.{Bytes}
use Rattle.rbac_sets.specs.CommandContent.{CommandContent, Single, Import, content_of}
use Rattle.rbac_sets.specs.declared.command.Command.{Command}
use Rattle.rbac_sets.specs.declared.command.Command.TheVariants.{CreateDsdSet, CreateSession, CreateSsdSet, DeassignUser, ImportAssignments, RevokePermission}
use Rattle.rbac_sets.specs.declared.refusal.Refusal.{Refusal}
use Rattle.rbac_sets.specs.declared.refusal.Refusal.TheVariants.{StaticSeparation}
use Rattle.admin_mgr.specs.Assignment.{Tally}
use Rattle.admin_mgr.specs.CommandContent.{content_verdict, content_tally}
use Rattle.admin_mgr.specs.OfficeRun.{Event, IsDeassignedInForce, IsRevokedInForce, OfficeRun, assigns, events_of, grants_to, may_have_taken_effect}
use Rattle.admin_mgr.specs.RbacState.{RbacState}
use Rattle.role_json.specs.Answer.{done_text, refusal_data, refusal_text}
use Rattle.role_json.specs.Request.{request}
use Rattle.role_json.specs.RequestContent.{Change, RequestContent}
use Rattle.role_wire.specs.Events.{AddsLines, AddsReading, IsJudgedBy, IsOneEvent}
use Rattle.role_wire.specs.Outcome.{after_line, after_lines, answer_to, outcome, outcome_of, outcome_text, unless}
use Rattle.role_cli.specs.FileRuns.{AcknowledgedDeassignmentStays, AcknowledgedRevocationStays, AreFileRuns, DeassignedStaysInFile, HasAcknowledged, IsSound, LinesAreAcknowledged, RevokedStaysInFile}
use Rattle.role_cli.specs.FileWork.{StoresState}

-- ---- the answer `{"ok":true}`

third : List ℕ → ℕ
third (a ∷ b ∷ c ∷ rest) = c
third _ = 0

-- the first key of a refusal's text begins with `c`
refusal_third : (refusal : Refusal) → third (refusal_text refusal) ≡ 99
unfolding third refusal_text refusal_data escape_byte
refusal_third (StaticSeparation set) = refl
refusal_third refusal = refl

no_refusal : (refusal : Refusal) → refusal_text refusal ≢ done_text
unfolding third done_text escape_byte
no_refusal refusal same =
    let is : 111 ≡ 99 = ap third (sym same) ∙ refusal_third refusal in
    absurd (omega (arith, is))

-- ---- the events of lines

-- the events of lines are those of the first of them, and then those of the others
split : (S : RbacState) (lines more : List (List ℕ)) (events : List Event) → AddsLines S (lines ++ more) events
    → (first last : List Event) × (events ≡ first ++ last) × AddsLines S lines first × AddsLines (after_lines S lines) more last
unfolding AddsLines after_lines
split S [] more events adds = ([], events, refl, refl, adds)
split S (line ∷ lines) more events (one, rest, is, reading, adds) =
    let (first, last, same, early, late) = split (after_line S line) lines more rest adds in
    (one ++ first, last, is ∙ ap (λ l. one ++ l) same ∙ sym (append_assoc one first last), (one, first, refl, reading, early), late)

-- the command was done: this is its event
abbrev IsDone : CommandContent → List Event → Type 0
IsDone asked one = (event : Event) × (told : Tally) × (content_of event.command ≡ asked) × (event.reply ≡ Ok told) × (one ≡ event ∷ [])

judged : (told : Option Refusal) (tally : Tally) (asked : CommandContent) (one : List Event) → outcome_text (unless told done_text) ≡ done_text
    → IsOneEvent asked (IsJudgedBy told tally) one → IsDone asked one
judged None tally asked one answer (event, same, reply, is) = (event, tally, same, reply, is)
judged (Some refusal) tally asked one answer added = absurd (no_refusal refusal answer)

read : (T : RbacState) (command : Command) (line : Result RequestContent Refusal) (one : List Event) → line ≡ Ok (Change (Single command))
    → outcome_text (outcome T line) ≡ done_text → AddsReading T line one → IsDone (Single command) one
unfolding outcome_of
read T command line one asks answer adds =
    judged (content_verdict T (Single command)) (content_tally T (Single command)) (Single command) one
    (subst (λ (l : Result RequestContent Refusal). outcome_text (outcome T l) ≡ done_text) asks answer)
    (subst (λ (l : Result RequestContent Refusal). AddsReading T l one) asks adds)

-- the events of lines up to an acknowledged one end with its event
last_done : (office_run : OfficeRun) (command : Command) (later : List Event) → HasAcknowledged office_run command later
    → (before : List Event) × (event : Event) × (told : Tally) × (content_of event.command ≡ Single command) × (event.reply ≡ Ok told) × (office_run.events ≡ before ++ event ∷ later)
unfolding AddsLines answer_to
last_done office_run command later it =
    let (before, last, is, early, (one, none, is_last, reading, is_none)) = split office_run.start it.lines (it.line ∷ []) it.first it.adds in
    let (event, told, asks, reply, is_one) = read (after_lines office_run.start it.lines) command (request it.line) one it.asks it.answer reading in
    let ends : it.first ≡ before ++ event ∷ [] = is ∙ ap (λ l. before ++ l) (is_last ∙ ap (λ l. one ++ l) is_none ∙ ap (λ l. l ++ []) is_one) in
    (before, event, told, asks, reply, it.events ∙ ap (λ l. l ++ later) ends ∙ append_assoc before (event ∷ []) later)

pub lines_are_acknowledged : LinesAreAcknowledged
unfolding AddsLines after_lines
lines_are_acknowledged office_run lines line more command adds asks answer =
    let all = subst (λ l. AddsLines office_run.start l office_run.events) (sym (append_assoc lines (line ∷ []) more)) adds in
    let (first, later, is, early, late) = split office_run.start (lines ++ line ∷ []) more office_run.events all in
    (later, record { lines = lines; line = line; asks = asks; answer = answer; first = first; events = is; adds = early }, late)

-- ---- the command of an event

-- the command that is asked for, or the other one for an import
single : Command → CommandContent → Command
single other (Single command) = command
single other (Import pairs) = other

is_deassignment : CommandContent → Bool
is_deassignment (Single (DeassignUser user role)) = true
is_deassignment _ = false

deassigns : (command : Command) (user role : Bytes) → content_of command ≡ Single (DeassignUser user role) → command ≡ DeassignUser user role
unfolding content_of single is_deassignment
deassigns (CreateSsdSet set roles cardinality) user role is = absurd (true≢false (sym (ap is_deassignment is)))
deassigns (CreateDsdSet set roles cardinality) user role is = absurd (true≢false (sym (ap is_deassignment is)))
deassigns (CreateSession owner roles session) user role is = absurd (true≢false (sym (ap is_deassignment is)))
deassigns (ImportAssignments pairs) user role is = absurd (true≢false (sym (ap is_deassignment is)))
deassigns command user role is = ap (single command) is

is_revocation : CommandContent → Bool
is_revocation (Single (RevokePermission object operation role)) = true
is_revocation _ = false

revokes : (command : Command) (object operation role : Bytes) → content_of command ≡ Single (RevokePermission object operation role) → command ≡ RevokePermission object operation role
unfolding content_of single is_revocation
revokes (CreateSsdSet set roles cardinality) object operation role is = absurd (true≢false (sym (ap is_revocation is)))
revokes (CreateDsdSet set roles cardinality) object operation role is = absurd (true≢false (sym (ap is_revocation is)))
revokes (CreateSession owner roles session) object operation role is = absurd (true≢false (sym (ap is_revocation is)))
revokes (ImportAssignments pairs) object operation role is = absurd (true≢false (sym (ap is_revocation is)))
revokes command object operation role is = ap (single command) is

-- ---- the events of runs

events_of-append : (first last : List OfficeRun) → events_of (first ++ last) ≡ events_of first ++ events_of last
events_of-append [] last = refl
events_of-append (r ∷ first) last = ap (λ l. r.events ++ l) (events_of-append first last) ∙ sym (append_assoc r.events (events_of first) (events_of last))

-- a run and those after it end with one of them
last_of : (r : OfficeRun) (after : List OfficeRun) → (first : List OfficeRun) × (last : OfficeRun) × (r ∷ after ≡ first ++ last ∷ [])
last_of r [] = ([], r, refl)
last_of r (next ∷ after) = let (first, last, same) = last_of next after in (r ∷ first, last, ap (λ l. r ∷ l) same)

-- an event of one of the runs, among the events of them all
among : (before : List OfficeRun) (r : OfficeRun) (after : List OfficeRun) (early : List Event) (event : Event) (later : List Event) → r.events ≡ early ++ event ∷ later
    → events_of (before ++ r ∷ after) ≡ (events_of before ++ early) ++ event ∷ (later ++ events_of after)
among before r after early event later is =
    events_of-append before (r ∷ after)
    ∙ ap (λ l. events_of before ++ (l ++ events_of after)) is
    ∙ ap (λ l. events_of before ++ l) (append_assoc early (event ∷ later) (events_of after))
    ∙ sym (append_assoc (events_of before) early (event ∷ (later ++ events_of after)))

is_event : (event : Event) (command : Command) (told : Tally) → event.command ≡ command → event.reply ≡ Ok told → event ≡ record { command = command; reply = Ok told }
is_event event command told same reply = λ i. record { command = same i; reply = reply i }

-- ---- what an acknowledged line removed

pub deassignment_stays : DeassignedStaysInFile → AcknowledgedDeassignmentStays
deassignment_stays stays start end S before r after sound stored runs user role later acknowledged none =
    let (early, event, told, asks, reply, is) = last_done r (DeassignUser user role) later acknowledged in
    let same = is_event event (DeassignUser user role) told (deassigns event.command user role asks) reply in
    let events = subst (λ e. events_of (before ++ r ∷ after) ≡ (events_of before ++ early) ++ e ∷ (later ++ events_of after)) same (among before r after early event later is) in
    let in_force : IsDeassignedInForce (events_of (before ++ r ∷ after)) user role = (events_of before ++ early, told, later ++ events_of after, events, none) in
    let (first, last, ends) = last_of r after in
    let all : before ++ r ∷ after ≡ (before ++ first) ++ last ∷ [] = ap (λ l. before ++ l) ends ∙ sym (append_assoc before first (last ∷ [])) in
    stays start end S (before ++ first) last sound stored (subst (λ l. AreFileRuns start l end) all runs) user role (subst (λ l. IsDeassignedInForce (events_of l) user role) all in_force)

pub revocation_stays : RevokedStaysInFile → AcknowledgedRevocationStays
revocation_stays stays start end S before r after sound stored runs object operation role later acknowledged none =
    let (early, event, told, asks, reply, is) = last_done r (RevokePermission object operation role) later acknowledged in
    let same = is_event event (RevokePermission object operation role) told (revokes event.command object operation role asks) reply in
    let events = subst (λ e. events_of (before ++ r ∷ after) ≡ (events_of before ++ early) ++ e ∷ (later ++ events_of after)) same (among before r after early event later is) in
    let in_force : IsRevokedInForce (events_of (before ++ r ∷ after)) object operation role = (events_of before ++ early, told, later ++ events_of after, events, none) in
    let (first, last, ends) = last_of r after in
    let all : before ++ r ∷ after ≡ (before ++ first) ++ last ∷ [] = ap (λ l. before ++ l) ends ∙ sym (append_assoc before first (last ∷ [])) in
    stays start end S (before ++ first) last sound stored (subst (λ l. AreFileRuns start l end) all runs) object operation role
    (subst (λ l. IsRevokedInForce (events_of l) object operation role) all in_force)
