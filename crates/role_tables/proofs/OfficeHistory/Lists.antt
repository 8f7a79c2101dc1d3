-- What holds of each element of a list holds of each element of its parts.
use Rattle.std.proofs.Common.{List, [], ◌∷◌, ◌++◌}
use Rattle.std.specs.Prelude.{All}
use Rattle.std.proofs.lemmas.List.Elements.{All-head, All-tail, All-nil, All-cons}

pub All-parts : {X : Type 0} (P : X → Type 0) (xs ys : List X) → All P (xs ++ ys) → All P xs × All P ys
All-parts P [] ys each = (All-nil P, each)
All-parts P (x ∷ xs) ys each =
    let rest = All-parts P xs ys (All-tail P x (xs ++ ys) each) in
    (All-cons P x xs (All-head P x (xs ++ ys) each) rest.0, rest.1)
