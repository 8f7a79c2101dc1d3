use Rattle.std.proofs.Common.{sym, subst}
use Rattle.std.specs.List.Sorted.{IsStrictlySortedBy}
use Rattle.rbac_sets.specs.Sets.{name_cmp}
use Rattle.rbac_sets.proofs.Members.{members-rise}
use Rattle.review_mgr.proofs.report.numbering.Numbers.new.Goals as goal

pub assigned_numbers-requires : goal.assigned_numbers-requires
assigned_numbers-requires c = subst (IsStrictlySortedBy name_cmp) (sym c.as_slice-roles.ensures) (members-rise name_cmp _)

pub granted_numbers-requires : goal.granted_numbers-requires
granted_numbers-requires c = subst (IsStrictlySortedBy name_cmp) (sym c.as_slice-roles.ensures) (members-rise name_cmp _)

pub third_numbers-requires : goal.third_numbers-requires
third_numbers-requires c = subst (IsStrictlySortedBy name_cmp) (sym c.as_slice-roles.ensures) (members-rise name_cmp _)
