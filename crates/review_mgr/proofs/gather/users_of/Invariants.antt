use Rattle.std.proofs.Common.{take}
use Rattle.rbac_sets.specs.Sets.{Pair, name_cmp, pair_cmp}
use Rattle.rbac_sets.specs.SortedSet.{set_of}
use Rattle.review_mgr.proofs.ByRole.{Lists}
use Rattle.review_mgr.proofs.gather.users_of.Given as goal

abbrev pub invariant-loop-role : goal.invariant-loop-role
invariant-loop-role l = Lists name_cmp (λ (pair : Pair). pair.0) (λ (pair : Pair). pair.1) (set_of pair_cmp l.by_role) (take l.role-index l.roles) l.users.items
