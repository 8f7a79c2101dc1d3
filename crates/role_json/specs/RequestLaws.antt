-- Laws of requests.
use Rattle.std.specs.Prelude.{◌≡◌, ◌||◌, ℕ, List, Bool, true, false, codes, None, Ok, Err, if◌then◌else◌}
use Rattle.serde_json.specs.Data.{Data}
use Rattle.rbac_sets.specs.declared.refusal.Refusal.{Refusal}
use Rattle.rbac_sets.specs.declared.refusal.Refusal.TheVariants.{BadName, BadRequest, UnknownFunction}
use Rattle.role_csv.specs.TextLaws.{refuses_texts}
use Rattle.role_json.specs.Fields.{text_at}
use Rattle.role_functions.specs.Function.{function_named, takes_csv}
use Rattle.role_json.specs.Request.{json_of, request, body_request, body_to}
use Rattle.role_functions.specs.declared.function.Function.{Function}

-- whether a call may be refused by this for its arguments: they cannot be read, or a text among them is not a valid name
abbrev pub refuses_arguments : Refusal → Bool
refuses_arguments BadName = true
refuses_arguments BadRequest = true
refuses_arguments _ = false

-- whether a body that calls the function may be refused by this: that of an import for its text, any other for its arguments
abbrev pub refuses_bodies : Function → Refusal → Bool
refuses_bodies called refusal = if takes_csv called then refuses_texts refusal else refuses_arguments refusal

-- whether a request may be refused by this: no function has its name, or its arguments or the text of an import are refused
abbrev pub refuses_requests : Refusal → Bool
refuses_requests UnknownFunction = true
refuses_requests refusal = refuses_arguments refusal || refuses_texts refusal

-- a line is refused by nothing else
abbrev pub RefusalsOfLines : Type 0
RefusalsOfLines = (line : List ℕ) (refusal : Refusal) → request line ≡ Err refusal → refuses_requests refusal ≡ true

-- a body that comes with the name of a function is refused by nothing else either
abbrev pub RefusalsOfNamedBodies : Type 0
RefusalsOfNamedBodies = (function body : List ℕ) (refusal : Refusal) → body_request function body ≡ Err refusal → refuses_requests refusal ≡ true

-- a body that calls a function is refused only by what a body that calls this function may be refused by
abbrev pub RefusalsOfBodies : Type 0
RefusalsOfBodies = (called : Function) (body : List ℕ) (refusal : Refusal) → body_to called body ≡ Err refusal → refuses_bodies called refusal ≡ true

-- the line has a text at `fn` that is not the name of a function
abbrev pub CallsNothing : List ℕ → Type 0
CallsNothing line = (value : Data) × (name : List ℕ) × (json_of line ≡ Ok value) × (text_at (codes "fn") value ≡ Ok name) × (function_named name ≡ None)

-- only such a line is refused by `UnknownFunction`
abbrev pub UnknownCallsNothing : Type 0
UnknownCallsNothing = (line : List ℕ) → request line ≡ Err UnknownFunction → CallsNothing line
