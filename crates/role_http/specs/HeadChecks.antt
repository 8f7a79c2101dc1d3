-- The answer to the head of a request, before its body is read.
use Rattle.std.specs.Prelude.{ℕ, List, [], ◌∷◌, Bool, true, ◌&&◌, codes, length, nat_le, nat_lt, map, Option, Some, None, Result, Ok, Err, if◌then◌else◌}
use Rattle.std.specs.Char.{is_ascii_digit}
use Rattle.std.specs.List.{list_all, list_any}
use Rattle.std.specs.Str.{bytes_eq, str_eq_ignore_ascii_case}
use Rattle.std.specs.Str.Parse.{digits_value}
use Rattle.httparse.specs.Grammar.{RequestHead}
use Rattle.httparse.specs.Spans.{name_and_value}
use Rattle.role_functions.specs.Function.{longest_body}
use Rattle.role_functions.specs.declared.function.Function.{Function}
use Rattle.role_http.specs.Route.{function_in}

-- a field of a head: its name and its value
abbrev pub Field : Type 0
Field = List ℕ × List ℕ

-- the first refusal, or what follows
infixl 10 ◌>>=◌
abbrev pub ◌>>=◌ : {A B : Type 0} → Result A ℕ → (A → Result B ℕ) → Result B ℕ
(Ok a) >>= f = f a
(Err status) >>= f = Err status

-- the value, or this status if there is none
abbrev pub or_status : {A : Type 0} → ℕ → Option A → Result A ℕ
or_status status (Some a) = Ok a
or_status status None = Err status

-- whether a field has this name. Names are compared without regard to ASCII case
unfoldable pub has_field : List ℕ → List Field → Bool
has_field name fields = list_any (λ field. str_eq_ignore_ascii_case field.0 name) fields

-- the values of the fields of this name
unfoldable pub values_of : List ℕ → List Field → List (List ℕ)
values_of name [] = []
values_of name (field ∷ fields) = if str_eq_ignore_ascii_case field.0 name then field.1 ∷ values_of name fields else values_of name fields

-- whether the value has digits only, and at least one
unfoldable pub is_length : List ℕ → Bool
is_length value = nat_lt 0 (length value) && list_all is_ascii_digit value

-- whether the value is the same as the one before, if there is one before
abbrev pub agrees : Option (List ℕ) → List ℕ → Bool
agrees None value = true
agrees (Some before) value = bytes_eq before value

-- the value of `before` and of all of these, if there is any; each of these must be a length, and all must have the same bytes
unfoldable pub one_length : Option (List ℕ) → List (List ℕ) → Result (Option (List ℕ)) ℕ
one_length before [] = Ok before
one_length before (value ∷ values) = if is_length value && agrees before value then one_length (Some value) values else Err 400

-- the number of bytes of a body, if it is at most `most`
unfoldable pub length_of : ℕ → List ℕ → Result ℕ ℕ
length_of most digits = if nat_le (digits_value 10 digits) most then Ok (digits_value 10 digits) else Err 413

-- the function that a head calls and the number of bytes that its body has, or the status by which the head is refused. `named`
-- is the function that its target names, if it names one
unfoldable pub judged : List ℕ → Option Function → List Field → Result (Function × ℕ) ℕ
judged method named fields =
    if has_field (codes "transfer-encoding") fields then Err 501 else (
    one_length None (values_of (codes "content-length") fields) >>= λ told.
    or_status 404 named >>= λ called.
    if bytes_eq method (codes "POST") then (
    or_status 411 told >>= λ digits.
    length_of (longest_body called) digits >>= λ count.
    Ok (called, count)) else Err 405)

-- the same for a complete head
abbrev pub judged_head : RequestHead → Result (Function × ℕ) ℕ
judged_head head = judged head.method (function_in head.target) (map name_and_value head.fields)
