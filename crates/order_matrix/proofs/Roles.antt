-- The roles of a set by their numbers.
use Rattle.std.proofs.Common.{◌≡◌, ℕ, sym, ◌∙◌, ap}
use Rattle.std.specs.Prelude.{IsTrue, Some, nat_eq}
use Rattle.std.specs.List.{slice_get}
use Rattle.std.specs.Cmp.{both_ways}
use Rattle.std.proofs.lemmas.Bool.{eqb-true, eq-eqb}
use Rattle.rbac_sets.specs.Sets.{Bytes, Names, Pairs, name_cmp, same_name, contains, members}
use Rattle.rbac_sets.specs.NameOrder.{name_total, name_exact}
use Rattle.rbac_sets.proofs.SetLaws.{from_members, tie_Decides}
use Rattle.rbac_sets.proofs.Members.{members-rise}
use Rattle.role_order.specs.Order.{geq}
use Rattle.order_matrix.specs.Table.{Table, entry, number_in, table_of}
use Rattle.order_matrix.proofs.Entries.{matches-table_of}
use Rattle.order_matrix.proofs.Places.{slice_get-number_in}

module _ (roles : Names) where
  abbrev pub number : Bytes → ℕ
  number role = number_in (members roles) role

  -- a role is at the place of its number
  pub placed : (role : Bytes) → IsTrue (contains roles role) → slice_get (members roles) (number role) ≡ Some role
  placed role here = slice_get-number_in (members roles) role (members-rise name_cmp roles) (ap (λ s. contains s role) (from_members name_total name_exact roles) ∙ here)

  -- two roles have the same number exactly if they are equal
  pub same-number : (role : Bytes) → IsTrue (contains roles role) → (q : Bytes) → IsTrue (contains roles q) → nat_eq (number q) (number role) ≡ same_name q role
  same-number role here q there = both_ways _ _
      (λ e. (tie_Decides name_total name_exact q role).1
      (let both : Some q ≡ Some role = sym (placed q there) ∙ ap (slice_get (members roles)) (eqb-true (number q) (number role) e) ∙ placed role here in cc))
      (λ e. eq-eqb (number q) (number role) (ap number ((tie_Decides name_total name_exact q role).0 e)))

  -- the entry at the numbers of two roles
  pub entry-number : (edges : Pairs) (table : Table) → table ≡ table_of edges (members roles) → (a b : Bytes) → IsTrue (contains roles a) → IsTrue (contains roles b)
      → entry table (number a) (number b) ≡ geq edges a b
  entry-number edges table is a b at_a at_b = ap (λ t. entry t (number a) (number b)) is ∙ matches-table_of edges (members roles) (number a) (number b) a b (placed a at_a) (placed b at_b)
