-- How reading a head ended.
use Rattle.std.specs.Prelude.{◌≡◌, ℕ, List, length, Option, ⊤}
use Rattle.std.specs.Io.KnownBytes.{IsAtEnd}
use Rattle.httparse.specs.Grammar.{RequestHead, HasNoRequest, NeverHasRequest, print_request}
use Rattle.httparse.specs.Spans.{IsRequestAt, IsRequestWithin, RequestExceeds, RequestOverflows}
use Rattle.httparse.specs.declared.spans.HeaderSpan.{HeaderSpan}
use Rattle.role_http.specs.Head.{longest_head}
use Rattle.role_http.specs.declared.head.HeadEnd.{HeadEnd}
use Rattle.role_http.specs.declared.head.HeadEnd.TheVariants.{Whole, Invalid, TooManyFields, TooLong, Ended}

-- what each case means for the bytes that were read, and for the remaining bytes of the source
abbrev pub EndsHead : List ℕ → List HeaderSpan → Option (List ℕ) → HeadEnd → Type 0
EndsHead bytes headers left (Whole spans) = (head : RequestHead) × IsRequestAt bytes headers spans head × (length (print_request head) ≡ length bytes)
EndsHead bytes headers left Invalid = NeverHasRequest bytes
EndsHead bytes headers left TooManyFields = RequestExceeds (length headers) bytes × RequestOverflows (length headers) bytes
EndsHead bytes headers left TooLong = HasNoRequest bytes × (length bytes ≡ longest_head)
EndsHead bytes headers left Ended = HasNoRequest bytes × IsAtEnd left

-- the parts of a complete head are within the bytes
abbrev pub IsWholeWithin : List ℕ → List HeaderSpan → HeadEnd → Type 0
IsWholeWithin bytes headers (Whole spans) = IsRequestWithin bytes headers spans
IsWholeWithin bytes headers Invalid = ⊤
IsWholeWithin bytes headers TooManyFields = ⊤
IsWholeWithin bytes headers TooLong = ⊤
IsWholeWithin bytes headers Ended = ⊤
