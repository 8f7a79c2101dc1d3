use Rattle.std.proofs.Common.{take}
use Rattle.rbac_sets.specs.Sets.{Triple, pair_cmp, triple_cmp}
use Rattle.rbac_sets.specs.SortedSet.{set_of}
use Rattle.review_mgr.proofs.ByRole.{Lists}
use Rattle.review_mgr.proofs.gather.permissions_of.Given as goal

abbrev pub invariant-loop-role : goal.invariant-loop-role
invariant-loop-role l = Lists pair_cmp (λ (grant : Triple). grant.0) (λ (grant : Triple). (grant.1, grant.2)) (set_of triple_cmp l.by_role) (take l.role-index l.roles) l.permissions.items
