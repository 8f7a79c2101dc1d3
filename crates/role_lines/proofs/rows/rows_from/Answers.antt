use Rattle.std.proofs.Common.{◌+◌, ap, ◌∙◌, subst}
use Rattle.rbac_sets.specs.Sets.{members, pair_cmp}
use Rattle.rbac_sets.specs.SortedSet.{set_of}
use Rattle.role_order.specs.Order.{IsClosure}
use Rattle.role_lines.specs.StoredRow.{cardinality_at, name_at, pair_at, triple_at}
use Rattle.role_lines.proofs.rows.rows_from.Goals as goal

pub returns-in-Users : goal.returns-in-Users
returns-in-Users c place = rw c.in-Users.is (c.names_from.ensures place ∙ ap (λ s. name_at (members s) (c.args.index + place)) c.users.ensures)

pub returns-in-Roles : goal.returns-in-Roles
returns-in-Roles c place = rw c.in-Roles.is (c.names_from-in-Roles.ensures place ∙ ap (λ s. name_at (members s) (c.args.index + place)) c.roles.ensures)

pub returns-in-Objects : goal.returns-in-Objects
returns-in-Objects c place = rw c.in-Objects.is (c.names_from-in-Objects.ensures place ∙ ap (λ s. name_at (members s) (c.args.index + place)) c.objects.ensures)

pub returns-in-Permissions : goal.returns-in-Permissions
returns-in-Permissions c place = rw c.in-Permissions.is (c.pairs_from.ensures place ∙ ap (λ s. pair_at (members s) (c.args.index + place)) c.permissions.ensures)

pub returns-in-Assignments : goal.returns-in-Assignments
returns-in-Assignments c place = rw c.in-Assignments.is (c.pairs_from-in-Assignments.ensures place ∙ ap (λ s. pair_at (members s) (c.args.index + place)) c.assignments.ensures)

pub returns-in-Inheritances : goal.returns-in-Inheritances
returns-in-Inheritances c place = rw c.in-Inheritances.is (c.pairs_from-in-Inheritances.ensures place ∙ ap (λ s. pair_at (members s) (c.args.index + place)) (c.edges.ensures.edges ∙ c.order.ensures))

pub returns-in-ClosurePairs : goal.returns-in-ClosurePairs
returns-in-ClosurePairs c place =
    let pairs = set_of pair_cmp c.pairs.result.now in
    rw c.in-ClosurePairs.is (pairs, subst (λ edges. IsClosure edges pairs) c.order-in-ClosurePairs.ensures c.pairs.ensures, c.pairs_from-in-ClosurePairs.ensures place)

pub returns-in-StaticMembers : goal.returns-in-StaticMembers
returns-in-StaticMembers c place = rw c.in-StaticMembers.is (c.pairs_from-in-StaticMembers.ensures place ∙ ap (λ s. pair_at (members s) (c.args.index + place)) c.ssd_members.ensures)

pub returns-in-DynamicMembers : goal.returns-in-DynamicMembers
returns-in-DynamicMembers c place = rw c.in-DynamicMembers.is (c.pairs_from-in-DynamicMembers.ensures place ∙ ap (λ s. pair_at (members s) (c.args.index + place)) c.dsd_members.ensures)

pub returns-in-Sessions : goal.returns-in-Sessions
returns-in-Sessions c place = rw c.in-Sessions.is (c.pairs_from-in-Sessions.ensures place ∙ ap (λ s. pair_at (members s) (c.args.index + place)) c.sessions.ensures)

pub returns-in-ActivatedRoles : goal.returns-in-ActivatedRoles
returns-in-ActivatedRoles c place = rw c.in-ActivatedRoles.is (c.pairs_from-in-ActivatedRoles.ensures place ∙ ap (λ s. pair_at (members s) (c.args.index + place)) c.active.ensures)

pub returns-in-Grants : goal.returns-in-Grants
returns-in-Grants c place = rw c.in-Grants.is (c.grants_from.ensures place ∙ ap (λ s. triple_at (members s) (c.args.index + place)) c.grants.ensures)

pub returns-in-StaticCardinalities : goal.returns-in-StaticCardinalities
returns-in-StaticCardinalities c place = rw c.in-StaticCardinalities.is (c.cardinalities_from.ensures place ∙ ap (λ s. cardinality_at (members s) (c.args.index + place)) c.ssd_cardinalities.ensures)

pub returns-in-DynamicCardinalities : goal.returns-in-DynamicCardinalities
returns-in-DynamicCardinalities c place = rw c.in-DynamicCardinalities.is (c.cardinalities_from-in-DynamicCardinalities.ensures place ∙ ap (λ s. cardinality_at (members s) (c.args.index + place)) c.dsd_cardinalities.ensures)

pub returns-in-Locks : goal.returns-in-Locks
returns-in-Locks c place = rw c.in-Locks.is (c.names_from-in-Locks.ensures place ∙ ap (λ s. name_at (members s) (c.args.index + place)) c.locked.ensures)
