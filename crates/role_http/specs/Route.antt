-- The one route, `/v1/{function}`.
use Rattle.std.specs.Prelude.{ℕ, List, [], ◌∷◌, ◌++◌, ◌==◌, codes, Option, Some, None, option_and_then, if◌then◌else◌}
use Rattle.std.specs.List.{list_any}
use Rattle.std.specs.Str.{is_utf8}
use Rattle.matchit.specs.Rows.{RowsOf, param_token}
use Rattle.matchit.specs.Router.{RouteOf}
use Rattle.role_functions.specs.Function.{function_named}
use Rattle.role_functions.specs.declared.function.Function.{Function}

-- the byte between the parts of a path
abbrev pub slash : ℕ
slash = 47

-- what follows a prefix, if the text begins with it
abbrev pub after : List ℕ → List ℕ → Option (List ℕ)
after [] text = Some text
after (x ∷ start) [] = None
after (x ∷ start) (byte ∷ text) = if x == byte then after start text else None

-- one part of a path: at least one byte, and no slash
abbrev pub one_part : List ℕ → Option (List ℕ)
one_part [] = None
one_part (byte ∷ text) = if list_any (λ b. b == slash) (byte ∷ text) then None else Some (byte ∷ text)

-- the part of a target after `/v1/`
unfoldable pub part_of : List ℕ → Option (List ℕ)
part_of target = option_and_then one_part (after (codes "/v1/") target)

-- the function that a target names; the target must be UTF-8
unfoldable pub function_in : List ℕ → Option Function
function_in target = if is_utf8 target then option_and_then function_named (part_of target) else None

-- ---- the router

-- the route `/v1/{function}`
abbrev pub route : RouteOf (Unit {0})
route = record { pattern = codes "/v1/" ++ param_token ∷ []; text = codes "/v1/{function}"; names = (5, 13) ∷ []; value = tt }

-- the routes of the router: this one
abbrev pub routes : RowsOf (RouteOf (Unit {0}))
routes = (route.pattern, route) ∷ []
