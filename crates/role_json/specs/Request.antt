-- What a line of JSON, or a body, asks for.
use Rattle.std.specs.Prelude.{ℕ, List, ◌&&◌, length, nat_eq, nat_le, codes, None, is_some, Result, Ok, Err, if◌then◌else◌}
use Rattle.std.specs.Str.{is_utf8}
use Rattle.serde_json.specs.Data.{Data}
use Rattle.serde_json.specs.Find.{as_object}
use Rattle.serde_json.specs.Read.{read}
use Rattle.rbac_sets.specs.CommandContent.{Import}
use Rattle.rbac_sets.specs.declared.refusal.Refusal.{Refusal}
use Rattle.rbac_sets.specs.declared.refusal.Refusal.TheVariants.{BadRequest, UnknownFunction}
use Rattle.role_csv.specs.Assignments.{assignments}
use Rattle.role_json.specs.Calls.{request_to}
use Rattle.role_json.specs.Fields.{text_at}
use Rattle.role_functions.specs.Function.{function_named, longest_line, takes_csv}
use Rattle.role_json.specs.RequestContent.{RequestContent, Change}
use Rattle.role_json.specs.Steps.{◌>>=◌, or_refuse}
use Rattle.role_functions.specs.declared.function.Function.{Function}

-- the JSON value of a line, which must be UTF-8 of at most 65,536 bytes and a JSON text. If a key occurs more than once, the last
-- occurrence counts
unfoldable pub json_of : List ℕ → Result Data Refusal
json_of line = or_refuse BadRequest (if nat_le (length line) longest_line && is_utf8 line then read line else None)

-- what a line asks for
unfoldable pub request : List ℕ → Result RequestContent Refusal
request line = do
  value ← json_of line
  name ← text_at (codes "fn") value
  called ← or_refuse UnknownFunction (function_named name)
  request_to called value

-- the JSON text of a body: an empty body is an empty object
abbrev pub json_body : List ℕ → List ℕ
json_body body = if nat_eq (length body) 0 then codes "{}" else body

-- the value, if it is an object
abbrev pub an_object : Data → Result Data Refusal
an_object value = if is_some (as_object value) then Ok value else Err BadRequest

-- what a call of a function asks for with a body. The arguments must be in an object, even if the function has none
unfoldable pub body_to : Function → List ℕ → Result RequestContent Refusal
body_to called body =
    if takes_csv called then assignments body >>= (λ pairs. Ok (Change (Import pairs)))
    else json_of (json_body body) >>= (λ value. an_object value >>= request_to called)

-- what a call of the function with this name asks for with a body
unfoldable pub body_request : List ℕ → List ℕ → Result RequestContent Refusal
body_request function body = or_refuse UnknownFunction (function_named function) >>= λ called. body_to called body
