use Rattle.std.proofs.Common.{sym, subst}
use Rattle.std.specs.List.Sorted.{IsStrictlySortedBy}
use Rattle.rbac_sets.specs.Sets.{name_cmp}
use Rattle.rbac_sets.proofs.Members.{members-rise}
use Rattle.review_mgr.proofs.report.number_of.Goals as goal

pub number-requires : goal.number-requires
number-requires c = subst (IsStrictlySortedBy name_cmp) (sym c.as_slice.ensures) (members-rise name_cmp _)
