-- The columns of the report, counted by the numbers of the roles.
use Rattle.std.proofs.Common.{◌≡◌, ℕ, ◌+◌, ◌∙◌, ap}
use Rattle.std.specs.Prelude.{IsTrue, count_by, nat_eq}
use Rattle.std.specs.List.{list_any}
use Rattle.rbac_sets.specs.Sets.{Bytes, Triple, contains, count, len, members, same_name, firsts}
use Rattle.role_order.specs.Order.{geq, seniors}
use Rattle.order_matrix.specs.Table.{count_above, entry, number_in}
use Rattle.admin_mgr.specs.RbacState.{RbacState}
use Rattle.admin_mgr.specs.Good.{IsGood}
use Rattle.admin_mgr.specs.Authorization.{authorized_permissions, authorized_users}
use Rattle.review_mgr.specs.private.Numbering.{IsNumbering}
use Rattle.review_mgr.specs.Review.{assigned_users}
use Rattle.review_mgr.specs.declared.report.numbering.Numbers.{Numbers}
use Rattle.order_matrix.proofs.Roles.{same-number, entry-number}
use Rattle.review_mgr.proofs.Numbered.{count_above-seniors, count-assigned_runs, count-granted_runs, count-granted}

module _ (S : RbacState) (good : IsGood S) (numbers : Numbers) (is : IsNumbering S numbers) (role : Bytes) (here : IsTrue (contains S.roles role)) (number : ℕ) (number_is : number ≡ number_in (members S.roles) role) where
  pub assigned-counted : count_by (λ run. list_any (λ n. nat_eq n number) run.items) numbers.assigned.items ≡ len (assigned_users S role)
  unfolding assigned_users firsts
  assigned-counted =
      count-assigned_runs S.roles S.users S.assignments good.well_formed.assignments (λ q. same_name q role) (λ n. nat_eq n number)
      (λ q there. ap (nat_eq (number_in (members S.roles) q)) number_is ∙ same-number S.roles role here q there) (λ run. run.items) numbers.assigned.items is.assigned

  pub authorized-counted : count_by (λ run. list_any (λ n. entry numbers.table n number) run.items) numbers.assigned.items ≡ len (authorized_users S role)
  unfolding authorized_users
  authorized-counted =
      count-assigned_runs S.roles S.users S.assignments good.well_formed.assignments (λ q. geq S.edges q role) (λ n. entry numbers.table n number)
      (λ q there. ap (entry numbers.table (number_in (members S.roles) q)) number_is ∙ entry-number S.roles S.edges numbers.table is.table q role there here) (λ run. run.items) numbers.assigned.items is.assigned

  pub permitted-counted : count_by (λ run. list_any (λ n. entry numbers.table number n) run.items) numbers.granted.items ≡ len (authorized_permissions S role)
  unfolding authorized_permissions
  permitted-counted =
      count-granted_runs S.roles S.permissions S.grants good.well_formed.grants (λ q. geq S.edges role q) (λ n. entry numbers.table number n)
      (λ q there. ap (λ i. entry numbers.table i (number_in (members S.roles) q)) number_is ∙ entry-number S.roles S.edges numbers.table is.table role q here there) (λ run. run.items) numbers.granted.items is.granted

  pub granted-counted : count_by (λ n. nat_eq n number) numbers.grants.items ≡ count (λ (grant : Triple). same_name grant.2 role) S.grants
  granted-counted =
      count-granted S.roles S.grants (λ object operation r h. (good.well_formed.grants object operation r h).1) (λ q. same_name q role) (λ n. nat_eq n number)
      (λ q there. ap (nat_eq (number_in (members S.roles) q)) number_is ∙ same-number S.roles role here q there) numbers.grants.items is.grants

  pub seniors-counted : count_above numbers.table number ≡ len (seniors S.edges role) + 1
  seniors-counted = ap (count_above numbers.table) number_is ∙ count_above-seniors S.roles S.edges numbers.table is.table (λ a b edge. (good.well_formed.edges a b edge).0) role here
