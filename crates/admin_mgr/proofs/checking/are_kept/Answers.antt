use Rattle.std.proofs.Common.{◌++◌, [], map, sym, subst, ◌∙◌, ap}
use Rattle.std.specs.List.Sorted.{IsStrictlySortedBy}
use Rattle.rbac_sets.specs.Sets.{members, name_cmp}
use Rattle.rbac_sets.proofs.Members.{members-rise}
use Rattle.order_matrix.specs.Table.{numbers_of}
use Rattle.admin_mgr.specs.private.NumberedSeparation.{keep_all}
use Rattle.admin_mgr.specs.private.SeparationOfDuty.{sets_of}
use Rattle.admin_mgr.proofs.Verdicts.NumberLaws.{keep_all_is}
use Rattle.admin_mgr.proofs.checking.are_kept.Goals as goal

pub run_numbers-requires : goal.run_numbers-requires
run_numbers-requires c = subst (IsStrictlySortedBy name_cmp) (sym c.as_slice-roles.ensures) (members-rise name_cmp _)

pub keep_all-requires : goal.keep_all-requires
keep_all-requires c = subst (IsStrictlySortedBy name_cmp) (sym c.as_slice-roles.ensures) (members-rise name_cmp _)

pub returns-clause-ok : goal.returns-clause-ok
returns-clause-ok c =
    let S = c.args.relations.now.facts in
    let sets = sets_of c.args.duty S in
    let roles = c.as_slice-roles.ensures ∙ ap members c.roles.ensures in
    let numbers = ap (map (λ run. run.items)) c.deref-2.ensures.value ∙ c.in_ok-numbers.ensures.ok
    ∙ (λ i. map (λ run. numbers_of (roles i) run ++ []) (c.deref.ensures.value i))
    ∙ ap (map (λ run. numbers_of (members S.roles) run ++ [])) c.in_ok-runs.ensures in
    c.in_ok-kept.ensures.ok
    ∙ (λ i. keep_all c.args.table.now (roles i) (numbers i) (c.members_in-members.ensures i) ((c.as_slice-sets.ensures ∙ ap members c.cardinalities_in.ensures) i))
    ∙ keep_all_is S c.requires.there c.args.table.now c.requires.table c.args.duty
