-- Refusals by a test, the first of several, and refusals for a limit or for a violated separation of duty set.
use Rattle.std.specs.Prelude.{ℕ, Bool, if◌then◌else◌, nat_lt, List, [], ◌∷◌, Option, Some, None}
use Rattle.std.specs.Option.{option_map}
use Rattle.rbac_sets.specs.Kind.{limit_of}
use Rattle.rbac_sets.specs.declared.kind.Kind.{Kind}
use Rattle.rbac_sets.specs.declared.refusal.Refusal.{Refusal}
use Rattle.rbac_sets.specs.declared.refusal.Refusal.TheVariants.{StaticSeparation, DynamicSeparation, TooMany}
use Rattle.admin_mgr.specs.RbacState.{RbacState}
use Rattle.admin_mgr.specs.Separation.{static_violation, dynamic_violation}

-- refused if the test holds
abbrev pub refuse_if : Bool → Refusal → Option Refusal
refuse_if test refusal = if test then Some refusal else None

-- refused unless the test holds
abbrev pub refuse_unless : Bool → Refusal → Option Refusal
refuse_unless test refusal = if test then None else Some refusal

-- the first refusal of a list, if there is one
abbrev pub first : List (Option Refusal) → Option Refusal
first [] = None
first (Some refusal ∷ rest) = Some refusal
first (None ∷ rest) = first rest

-- whether this number of the kind exceeds its limit in the state's version
abbrev pub is_too_many : RbacState → Kind → ℕ → Bool
is_too_many S kind number = nat_lt (limit_of kind S.version) number

-- refused if this number of the kind exceeds its limit
abbrev pub too_many : RbacState → Kind → ℕ → Option Refusal
too_many S kind number = refuse_if (is_too_many S kind number) (TooMany kind)

-- refused if this state violates a static set; the refusal names the first one in byte order
abbrev pub violates_static : RbacState → Option Refusal
violates_static S = option_map StaticSeparation (static_violation S)

-- refused if this state violates a dynamic set; the refusal names the first one in byte order
abbrev pub violates_dynamic : RbacState → Option Refusal
violates_dynamic S = option_map DynamicSeparation (dynamic_violation S)
