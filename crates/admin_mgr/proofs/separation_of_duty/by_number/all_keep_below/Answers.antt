use Rattle.std.proofs.Common.{◌++◌, [], map, nat_lt, sym, subst, ◌∙◌, ap}
use Rattle.std.specs.List.Sorted.{IsStrictlySortedBy}
use Rattle.std.proofs.lemmas.List.Folds.{list_all-map}
use Rattle.rbac_sets.specs.Sets.{members, name_cmp}
use Rattle.rbac_sets.proofs.Members.{members-rise}
use Rattle.order_matrix.specs.Table.{numbers_of, table_of}
use Rattle.admin_mgr.specs.private.NumberedSeparation.{count_reached, keep_below}
use Rattle.admin_mgr.proofs.separation_of_duty.by_number.all_keep_below.Goals as goal

pub run_numbers-requires : goal.run_numbers-requires
run_numbers-requires c = subst (IsStrictlySortedBy name_cmp) (sym c.as_slice-roles.ensures) (members-rise name_cmp _)

pub returns-clause-ok : goal.returns-clause-ok
returns-clause-ok c =
    let S = c.args.relations.now.facts in
    let roles = c.as_slice-roles.ensures ∙ ap members c.roles.ensures in
    let table = c.in_ok-table.ensures.ok ∙ (λ i. table_of (c.order.ensures i) (roles i)) in
    let numbers = ap (map (λ run. run.items)) c.deref-2.ensures.value ∙ c.in_ok-numbers.ensures.ok
    ∙ (λ i. map (λ run. numbers_of (roles i) run ++ []) (c.deref.ensures.value i))
    ∙ ap (map (λ run. numbers_of (members S.roles) run ++ [])) c.in_ok-runs.ensures in
    c.keep_below.ensures
    ∙ sym (list_all-map (λ run. nat_lt (count_reached c.in_ok-table.table run c.args.wanted.now) c.args.cardinality) (λ run. run.items) c.deref-2.result.now)
    ∙ (λ i. keep_below (table i) (numbers i) c.args.wanted.now c.args.cardinality)
