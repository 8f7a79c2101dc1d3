-- The two kinds of separation of duty: the sets of each, the commands on these, and what they refuse.
use Rattle.std.specs.Prelude.{ℕ, Bool, Option}
use Rattle.rbac_sets.specs.Sets.{Bytes, Names}
use Rattle.rbac_sets.specs.SortedSet.{Stored}
use Rattle.rbac_sets.specs.declared.command.Command.{Command}
use Rattle.rbac_sets.specs.declared.command.Command.TheVariants.{CreateSsdSet, AddSsdRoleMember, DeleteSsdRoleMember, SetSsdSetCardinality, DeleteSsdSet, CreateDsdSet, AddDsdRoleMember, DeleteDsdRoleMember, SetDsdSetCardinality, DeleteDsdSet}
use Rattle.rbac_sets.specs.declared.kind.Kind.{Kind}
use Rattle.rbac_sets.specs.declared.kind.Kind.TheVariants.{SsdSet, DsdSet}
use Rattle.rbac_sets.specs.declared.refusal.Refusal.{Refusal}
use Rattle.rbac_sets.specs.declared.refusal.Refusal.TheVariants.{StaticSeparation, DynamicSeparation}
use Rattle.rbac_sets.specs.RowKinds.{static_member_kind, dynamic_member_kind, static_cardinality_kind, dynamic_cardinality_kind}
use Rattle.admin_mgr.specs.declared.separation_of_duty.SeparationOfDuty.{SeparationOfDuty}
use Rattle.admin_mgr.specs.declared.separation_of_duty.SeparationOfDuty.TheVariants.{Static, Dynamic}
use Rattle.admin_mgr.specs.RbacState.{RbacState, Separation}
use Rattle.admin_mgr.specs.Separation.{is_kept_statically, is_kept_dynamically}
use Rattle.admin_mgr.specs.Refusals.{violates_static, violates_dynamic}

-- the sets of this kind
abbrev pub sets_of : SeparationOfDuty → RbacState → Separation
sets_of Static S = S.ssd
sets_of Dynamic S = S.dsd

-- the state with other sets of this kind
abbrev pub with_sets : SeparationOfDuty → RbacState → Separation → RbacState
with_sets Static S sets = record S { ssd = sets }
with_sets Dynamic S sets = record S { dsd = sets }

-- the kind that has the limit on the number of its sets
abbrev pub kind_of : SeparationOfDuty → Kind
kind_of Static = SsdSet
kind_of Dynamic = DsdSet

-- the kind of the rows of its sets' members
abbrev pub member_rows : SeparationOfDuty → ℕ
member_rows Static = static_member_kind
member_rows Dynamic = dynamic_member_kind

-- the kind of the rows of its sets' cardinalities
abbrev pub cardinality_rows : SeparationOfDuty → ℕ
cardinality_rows Static = static_cardinality_kind
cardinality_rows Dynamic = dynamic_cardinality_kind

-- each user is authorized for fewer of these roles than the cardinality, or each session has fewer
abbrev pub is_kept : SeparationOfDuty → RbacState → Names → ℕ → Bool
is_kept Static = is_kept_statically
is_kept Dynamic = is_kept_dynamically

-- the refusal that names a violated set
abbrev pub refusal_of : SeparationOfDuty → Bytes → Refusal
refusal_of Static = StaticSeparation
refusal_of Dynamic = DynamicSeparation

-- refused if this state violates a set of this kind; the refusal names the first one in byte order
abbrev pub violates : SeparationOfDuty → RbacState → Option Refusal
violates Static = violates_static
violates Dynamic = violates_dynamic

-- CreateSsdSet, CreateDsdSet
abbrev pub create_set : SeparationOfDuty → Bytes → Stored Bytes → ℕ → Command
create_set Static = CreateSsdSet
create_set Dynamic = CreateDsdSet

-- AddSsdRoleMember, AddDsdRoleMember
abbrev pub add_member : SeparationOfDuty → Bytes → Bytes → Command
add_member Static = AddSsdRoleMember
add_member Dynamic = AddDsdRoleMember

-- DeleteSsdRoleMember, DeleteDsdRoleMember
abbrev pub delete_member : SeparationOfDuty → Bytes → Bytes → Command
delete_member Static = DeleteSsdRoleMember
delete_member Dynamic = DeleteDsdRoleMember

-- SetSsdSetCardinality, SetDsdSetCardinality
abbrev pub set_cardinality : SeparationOfDuty → Bytes → ℕ → Command
set_cardinality Static = SetSsdSetCardinality
set_cardinality Dynamic = SetDsdSetCardinality

-- DeleteSsdSet, DeleteDsdSet
abbrev pub delete_set : SeparationOfDuty → Bytes → Command
delete_set Static = DeleteSsdSet
delete_set Dynamic = DeleteDsdSet
