-- The answer to the head of a request.
use Rattle.std.specs.Prelude.{◌≡◌, ◌⊎◌, ◌++◌, ℕ, List, [], length, Option, Some, None, Result, Ok, Err}
use Rattle.std.specs.Io.KnownBytes.{IsAtEnd}
use Rattle.httparse.specs.Grammar.{RequestHead, HasNoRequest, NeverHasRequest}
use Rattle.httparse.specs.Spans.{RequestExceeds, RequestOverflows}
use Rattle.role_functions.specs.declared.function.Function.{Function}
use Rattle.role_http.specs.Head.{HasHead, longest_head, most_fields}
use Rattle.role_http.specs.HeadChecks.{judged_head}

-- the bytes that were read, and the remaining ones if they are known
abbrev pub with_left : List ℕ → Option (List ℕ) → List ℕ
with_left taken None = taken
with_left taken (Some left) = taken ++ left

-- the bytes that were read are a head within the limits, and this is the answer to it
abbrev pub AnswersHead : List ℕ → Result (Function × ℕ) ℕ → Type 0
AnswersHead bytes answer = (head : RequestHead) × HasHead bytes head [] × (judged_head head ≡ answer)

-- the bytes don't begin with a head, and either nothing that follows can change that, or nothing follows
abbrev pub IsNoHead : List ℕ → Option (List ℕ) → Type 0
IsNoHead bytes left = NeverHasRequest bytes ⊎ (HasNoRequest bytes × IsAtEnd left)

-- the bytes begin a head with too many fields, or are as many as a head may have and don't begin with a complete one
abbrev pub ExceedsLimits : List ℕ → Type 0
ExceedsLimits bytes = (RequestExceeds most_fields bytes × RequestOverflows most_fields bytes) ⊎ (HasNoRequest bytes × (length bytes ≡ longest_head))

-- the bytes are not a head within the limits, and the status says why
abbrev pub RefusesBytes : List ℕ → Option (List ℕ) → Result (Function × ℕ) ℕ → Type 0
RefusesBytes bytes left (Ok call) = ⊥
RefusesBytes bytes left (Err status) = ((status ≡ 400) × IsNoHead bytes left) ⊎ ((status ≡ 431) × ExceedsLimits bytes)

-- the answer to the bytes that were read from a source, which has these remaining bytes
abbrev pub AnswersConsumed : List ℕ → Option (List ℕ) → Result (Function × ℕ) ℕ → Type 0
AnswersConsumed bytes left answer = AnswersHead bytes answer ⊎ RefusesBytes bytes left answer
