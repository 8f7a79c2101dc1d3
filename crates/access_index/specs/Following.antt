-- Facts about roles that are kept as bits, by the roles' numbers.
use Rattle.std.specs.Prelude.{◌≡◌, ◌<◌, ℕ, Bool, false, IsTrue, Option, Some}
use Rattle.bit_rows.specs.declared.row.TheConstants.{WIDTH}
use Rattle.rbac_sets.specs.Sets.{Bytes}

-- The numbers of roles: a number of a role is below the width of a row and used, no two roles have one number, and each used number
-- is that of a role.
pub record AreNumbers (number : Bytes → Option ℕ) (used : ℕ → Bool) : Type 0 where
  pub within : (role : Bytes) (n : ℕ) → number role ≡ Some n → n < WIDTH
  pub is_used : (role : Bytes) (n : ℕ) → number role ≡ Some n → IsTrue (used n)
  pub one_role : (a b : Bytes) (n : ℕ) → number a ≡ Some n → number b ≡ Some n → a ≡ b
  pub has_role : (n : ℕ) → IsTrue (used n) → (role : Bytes) × (number role ≡ Some n)

-- The bits of each `x` are those of the numbers of the roles of which the fact holds with `x`. Each such role has a number.
pub record Follow (X : Type 0) (number : Bytes → Option ℕ) (used : ℕ → Bool) (bits : X → ℕ → Bool) (fact : X → Bytes → Bool) : Type 0 where
  pub same : (x : X) (role : Bytes) (n : ℕ) → number role ≡ Some n → bits x n ≡ fact x role
  pub unused : (x : X) (n : ℕ) → used n ≡ false → bits x n ≡ false
  pub numbered : (x : X) (role : Bytes) → IsTrue (fact x role) → (n : ℕ) × (number role ≡ Some n)
