use Rattle.std.proofs.Common.{◌++◌, [], ◌∷◌, length, map, sym, subst, ◌∙◌, ap}
use Rattle.std.specs.List.Sorted.{IsStrictlySortedBy}
use Rattle.std.proofs.lemmas.Bool.{eqb-true}
use Rattle.rbac_sets.specs.Sets.{members, name_cmp, pair_cmp}
use Rattle.rbac_sets.specs.SortedSet.{set_of}
use Rattle.rbac_sets.proofs.Members.{members-rise}
use Rattle.order_matrix.specs.Table.{number_in, numbers_of, table_of}
use Rattle.admin_mgr.specs.private.NumberedSeparation.{first_violated_by}
use Rattle.admin_mgr.proofs.Verdicts.NumberLaws.{first_violated_is, nobody_violates}
use Rattle.admin_mgr.proofs.separation_of_duty.inheritance.find_violated.Goals as goal

pub number-more-requires : goal.number-more-requires
number-more-requires c = subst (IsStrictlySortedBy name_cmp) (sym c.as_slice-roles.ensures) (members-rise name_cmp _)

pub run_numbers-requires : goal.run_numbers-requires
run_numbers-requires c = subst (IsStrictlySortedBy name_cmp) (sym c.as_slice-roles.ensures) (members-rise name_cmp _)

pub first_violated_by-requires : goal.first_violated_by-requires
first_violated_by-requires c = subst (IsStrictlySortedBy name_cmp) (sym c.as_slice-roles.ensures) (members-rise name_cmp _)

pub returns-then-is_empty : goal.returns-then-is_empty
returns-then-is_empty c =
    sym (nobody_violates c.args.runs.now (eqb-true (length c.args.runs.now) 0 (sym c.is_empty.ensures ∙ c.if-is_empty.true)) c.args.state.now.facts.edges c.args.more.now (set_of pair_cmp c.args.members.now) c.args.sets.now)

pub returns : goal.returns
returns c =
    let S = c.args.state.now.facts in
    let roles = c.as_slice-roles.ensures ∙ ap members c.roles.ensures in
    let more = c.number-more.ensures.number ∙ ap (λ names. number_in names c.args.more.now) roles in
    let table = c.in_ok-table.ensures.ok ∙ (λ i. table_of (c.order.ensures i) (roles i)) in
    let runs = c.args.runs.now in
    let numbers = ap (map (λ run. run.items)) c.deref.ensures.value ∙ c.in_ok-numbers.ensures.ok
    ∙ (λ i. map (λ run. numbers_of (roles i) run ++ more i ∷ []) c.args.runs.now) in
    c.in_ok-found.ensures.ok
    ∙ (λ i. first_violated_by c.in_ok-table.table (roles i) (numbers i) (more i) (set_of pair_cmp c.args.members.now) c.args.sets.now)
    ∙ first_violated_is S.roles S.edges c.in_ok-table.table table c.args.more.now c.requires.more runs
    c.requires.runs
    (set_of pair_cmp c.args.members.now) c.requires.members c.args.sets.now
