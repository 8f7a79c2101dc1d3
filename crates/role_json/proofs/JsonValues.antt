-- Lines as JSON values.
use Rattle.std.proofs.Common.{◌≡◌, ◌≤◌, ◌<◌, ℕ, List, true, false, length, inl, inr, Some, None, Ok, Err, refl, rules}
use Rattle.std.specs.Prelude.{nat_le}
use Rattle.std.specs.Str.{IsUtf8, is_utf8}
use Rattle.std.proofs.lemmas.Str.{is_utf8-from_IsUtf8, IsUtf8-from_is_utf8}
use Rattle.std.proofs.lemmas.Bool.{cases_Bool}
use Rattle.serde_json.specs.Data.{Data}
use Rattle.serde_json.specs.Read.{read}
use Rattle.rbac_sets.specs.declared.refusal.Refusal.TheVariants.{BadRequest}
use Rattle.role_functions.specs.Function.{longest_line}
use Rattle.role_json.specs.Request.{json_of}

-- a line that is too long has no value
pub json_of-long : (line : List ℕ) → longest_line < length line → json_of line ≡ Err BadRequest
unfolding json_of
json_of-long line h =
    let long : nat_le (length line) longest_line ≡ false = search rules in rw long refl

-- a line's value is that of its text
pub json_of-read : (line : List ℕ) (value : Data) → length line ≤ longest_line → IsUtf8 line → read line ≡ Some value → json_of line ≡ Ok value
unfolding json_of
json_of-read line value h utf8 e =
    let fits : nat_le (length line) longest_line ≡ true = search rules in rw (fits, is_utf8-from_IsUtf8 line utf8, e) refl

-- a line that is not a JSON text has no value
pub json_of-unread : (line : List ℕ) → length line ≤ longest_line → (IsUtf8 line → read line ≡ None) → json_of line ≡ Err BadRequest
unfolding json_of
json_of-unread line h unread =
    let fits : nat_le (length line) longest_line ≡ true = search rules in
    elim (cases_Bool (is_utf8 line)) [
      | inl utf8 ↦ rw (fits, utf8, unread (IsUtf8-from_is_utf8 line utf8)) refl
      | inr broken ↦ rw (fits, broken) refl
    ]

pub ruleset json_of_steps = (json_of-long, json_of-read, json_of-unread)
