use Rattle.std.proofs.Common.{◌≡◌, ℕ, List, length, map, sym, subst, ◌∙◌, ap}
use Rattle.std.specs.Prelude.{IfOk}
use Rattle.std.specs.List.Sorted.{IsStrictlySortedBy}
use Rattle.std.proofs.lemmas.Bool.{eqb-true}
use Rattle.std.proofs.lemmas.List.{length-map}
use Rattle.rbac_sets.specs.Sets.{Bytes, members, name_cmp, pair_cmp}
use Rattle.rbac_sets.specs.SortedSet.{set_of}
use Rattle.rbac_sets.proofs.Members.{members-rise}
use Rattle.order_matrix.specs.Table.{number_in, table_of}
use Rattle.explanations.specs.private.Numbered.{number_roles, numbered_conflicts}
use Rattle.explanations.proofs.NumberedHolders.{conflicts_are, nobody_conflicts}
use Rattle.explanations.proofs.inheritance.conflicts_below.Goals as goal

pub number-more-requires : goal.number-more-requires
number-more-requires c = subst (IsStrictlySortedBy name_cmp) (sym c.as_slice-roles.ensures) (members-rise name_cmp _)

pub number_roles-requires : goal.number_roles-requires
number_roles-requires c = subst (IsStrictlySortedBy name_cmp) (sym c.as_slice-roles.ensures) (members-rise name_cmp _)

pub numbered_conflicts-requires : goal.numbered_conflicts-requires
numbered_conflicts-requires c = subst (IsStrictlySortedBy name_cmp) (sym c.as_slice-roles.ensures) (members-rise name_cmp _)

pub returns-then-is_empty-clause-ok : goal.returns-then-is_empty-clause-ok
returns-then-is_empty-clause-ok c =
    let holders = c.args.holders.now in
    let none = length-map holders (λ holder. holder.now) ∙ eqb-true (length holders) 0 (sym c.is_empty.ensures ∙ c.if-is_empty.true) in
    c.new.ensures.items
    ∙ sym (nobody_conflicts c.args.state.now.facts.edges (set_of pair_cmp c.args.pairs.now) c.args.more.now (map (λ holder. holder.now) holders) none (set_of pair_cmp c.args.members.now) c.args.sets.now)

pub returns-clause-ok : goal.returns-clause-ok
returns-clause-ok c =
    let S = c.args.state.now.facts in
    let held = set_of pair_cmp c.args.pairs.now in
    let pairs = set_of pair_cmp c.args.members.now in
    let sets = c.args.sets.now in
    let names : List Bytes = map (λ holder. holder.now) c.args.holders.now in
    let roles = c.as_slice-roles.ensures ∙ ap members c.roles.ensures in
    let more = c.number-more.ensures.number ∙ ap (λ names. number_in names c.args.more.now) roles in
    let table = c.in_ok-table.ensures.ok ∙ (λ i. table_of (c.order.ensures i) (roles i)) in
    let numbered = ap (map {B = Bytes × List ℕ} (λ one. (one.0.now, one.1.items))) c.deref.ensures.value ∙ c.in_ok-numbered.ensures.ok ∙ (λ i. number_roles (roles i) held (more i) names) in
    subst (λ conflicts. IfOk c.numbered_conflicts.result (λ found. found.items ≡ conflicts))
    ((λ i. numbered_conflicts c.in_ok-table.table (roles i) (numbered i) (more i) pairs sets)
    ∙ conflicts_are S.roles S.edges c.in_ok-table.table table c.args.more.now c.requires.more held c.requires.pairs names pairs c.requires.members sets)
    c.numbered_conflicts.ensures.ok
