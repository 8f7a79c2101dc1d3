-- Pieces of a text that are lent.
use Rattle.std.specs.Prelude.{ℕ, List, map}
use Rattle.std.specs.Borrow.{Bor}
use Rattle.role_http.specs.Pieces.{joined}

-- the bytes behind references
abbrev pub texts_of : List (Bor (List ℕ)) → List (List ℕ)
texts_of pieces = map (λ piece. piece.now) pieces

abbrev pub all_of : List (Bor (List ℕ)) → List ℕ
all_of pieces = joined (texts_of pieces)
