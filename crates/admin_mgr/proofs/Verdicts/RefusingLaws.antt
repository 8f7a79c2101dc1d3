-- A verdict refuses a command: it is never `Memory`, `Store` or `Closed`.
use Rattle.std.proofs.Common.{◌≡◌, Bool, true, false, List, [], ◌∷◌, Option, Some, None, refl, subst}
use Rattle.std.specs.Option.{option_map}
use Rattle.std.specs.List.{AllByRecursion}
use Rattle.rbac_sets.specs.Sets.{Bytes}
use Rattle.rbac_sets.specs.declared.command.Command.{Command}
use Rattle.rbac_sets.specs.declared.command.Command.TheVariants.{AddUser}
use Rattle.rbac_sets.specs.declared.refusal.Refusal.{Refusal}
use Rattle.rbac_sets.specs.declared.refusal.Refusal.TheVariants.{StaticSeparation, DynamicSeparation}
use Rattle.admin_mgr.specs.RbacState.{RbacState}
use Rattle.admin_mgr.specs.Refusals.{refuse_if, refuse_unless, first, violates_static, violates_dynamic}
use Rattle.admin_mgr.specs.Separation.{static_violation, dynamic_violation}
use Rattle.admin_mgr.specs.Assignment.{assignment_refusals}
use Rattle.admin_mgr.specs.Verdict.{refusals, verdict}
use Rattle.admin_mgr.specs.CommandLaws.{refuses_commands, VerdictsRefuseCommands}

-- no refusal, or one of those that a command may have
abbrev MayBeTold : Option Refusal → Type 0
MayBeTold None = Unit {0}
MayBeTold (Some refusal) = refuses_commands refusal ≡ true

-- a refusal if a test holds
on : (b : Bool) (refusal : Refusal) → refuses_commands refusal ≡ true → MayBeTold (refuse_if b refusal)
on true refusal told = told
on false refusal told = tt

-- a refusal if a test fails
off : (b : Bool) (refusal : Refusal) → refuses_commands refusal ≡ true → MayBeTold (refuse_unless b refusal)
off true refusal told = tt
off false refusal told = told

-- a static set that is violated
static : (S : RbacState) → MayBeTold (violates_static S)
static S = by (static_violation S)
  where
    by : (violated : Option Bytes) → MayBeTold (option_map StaticSeparation violated)
    by None = tt
    by (Some name) = refl

-- a dynamic set that is violated
dynamic : (S : RbacState) → MayBeTold (violates_dynamic S)
dynamic S = by (dynamic_violation S)
  where
    by : (violated : Option Bytes) → MayBeTold (option_map DynamicSeparation violated)
    by None = tt
    by (Some name) = refl

-- the first of several
first_told : (told : List (Option Refusal)) → AllByRecursion MayBeTold told → MayBeTold (first told)
first_told [] all = tt
first_told (None ∷ told) all = first_told told all.1
first_told (Some refusal ∷ told) all = all.0

ruleset may_be_told = (on, off, static, dynamic)

-- each refusal of each command
all_told : (S : RbacState) (command : Command) → AllByRecursion MayBeTold (refusals S command)
unfolding refusals assignment_refusals
all_told S (AddUser user) = search may_be_told
all_told S _ = search may_be_told

-- so a verdict is one of them
pub verdicts_refuse_commands : VerdictsRefuseCommands
unfolding verdict
verdicts_refuse_commands S command refusal is = subst MayBeTold is (first_told (refusals S command) (all_told S command))
