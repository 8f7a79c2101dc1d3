use Rattle.std.proofs.Common.{◌≡◌, ◌++◌, ◌∷◌, [], sym, subst, ◌∙◌, ap}
use Rattle.std.specs.Prelude.{IfOk}
use Rattle.std.specs.List.Sorted.{IsStrictlySortedBy}
use Rattle.rbac_sets.specs.Sets.{members, name_cmp, pair_cmp}
use Rattle.rbac_sets.specs.SortedSet.{set_of}
use Rattle.rbac_sets.proofs.Members.{members-rise}
use Rattle.order_matrix.specs.Table.{number_in, numbers_of, table_of}
use Rattle.explanations.specs.private.Numbered.{numbered_violated}
use Rattle.explanations.proofs.NumberedHolders.{violated_is}
use Rattle.explanations.proofs.conflicts.violated_with.Goals as goal

pub number-requires : goal.number-requires
number-requires c = subst (IsStrictlySortedBy name_cmp) (sym c.as_slice-roles.ensures) (members-rise name_cmp _)

pub numbers_with-requires : goal.numbers_with-requires
numbers_with-requires c = subst (IsStrictlySortedBy name_cmp) (sym c.as_slice-roles.ensures) (members-rise name_cmp _)

pub numbered_violated-requires : goal.numbered_violated-requires
numbered_violated-requires c = subst (IsStrictlySortedBy name_cmp) (sym c.as_slice-roles.ensures) (members-rise name_cmp _)

pub returns-clause-ok : goal.returns-clause-ok
returns-clause-ok c =
    let S = c.args.state.now.facts in
    let pairs = set_of pair_cmp c.args.members.now in
    let roles = c.as_slice-roles.ensures ∙ ap members c.roles.ensures in
    let more = c.number.ensures.number ∙ ap (λ names. number_in names c.args.more.now) roles in
    let table = c.in_ok-table.ensures.ok ∙ (λ i. table_of (c.order.ensures i) (roles i)) in
    let numbers = c.deref.ensures.value ∙ c.in_ok-numbers.ensures.ok ∙ (λ i. numbers_of (roles i) c.args.held.now ++ more i ∷ []) in
    subst (λ names. IfOk c.numbered_violated.result (λ found. found.items ≡ names))
    ((λ i. numbered_violated c.in_ok-table.table (roles i) (numbers i) pairs c.args.sets.now)
    ∙ violated_is S.roles S.edges c.in_ok-table.table table c.args.more.now c.requires.more c.args.held.now c.requires.held pairs c.requires.members c.args.sets.now)
    c.numbered_violated.ensures.ok
