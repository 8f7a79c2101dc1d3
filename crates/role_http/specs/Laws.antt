-- Laws of heads.
use Rattle.std.specs.Prelude.{◌≡◌, ℕ, List, Option, Result}
use Rattle.httparse.specs.Grammar.{RequestHead, print_request}
use Rattle.role_functions.specs.declared.function.Function.{Function}
use Rattle.role_http.specs.HeadAnswer.{AnswersConsumed, RefusesBytes, with_left}
use Rattle.role_http.specs.Head.{HasHead}
use Rattle.role_http.specs.HeadChecks.{judged_head}

-- bytes determine their head and what follows it
abbrev pub HeadsAreUnique : Type 0
HeadsAreUnique = (bytes : List ℕ) (head other : RequestHead) (rest after : List ℕ) → HasHead bytes head rest → HasHead bytes other after → (head ≡ other) × (rest ≡ after)

-- bytes that are refused because they are not a head, with the remaining bytes, don't begin with a head within the limits
abbrev pub RefusedHaveNoHead : Type 0
RefusedHaveNoHead = (taken : List ℕ) (left : Option (List ℕ)) (answer : Result (Function × ℕ) ℕ) → RefusesBytes taken left answer
    → (head : RequestHead) (rest : List ℕ) → ¬ (HasHead (with_left taken left) head rest)

-- if the bytes that were read and the remaining ones begin with a head within the limits, it is what was read, and it is answered
abbrev pub AnswersAreOfHeads : Type 0
AnswersAreOfHeads = (taken : List ℕ) (left : Option (List ℕ)) (answer : Result (Function × ℕ) ℕ) → AnswersConsumed taken left answer
    → (head : RequestHead) (rest : List ℕ) → HasHead (with_left taken left) head rest → (taken ≡ print_request head) × (answer ≡ judged_head head)
