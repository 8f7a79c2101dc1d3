use Rattle.std.proofs.Common.{◌≡◌, true, length}
use Rattle.std.specs.List.{AllWithin}
use Rattle.rbac_sets.specs.Sets.{Triple}
use Rattle.review_mgr.specs.private.Intersection.{may_have}
use Rattle.review_mgr.proofs.fingerprints.fingerprints_of.Given as goal

abbrev pub invariant-loop-grant : goal.invariant-loop-grant
invariant-loop-grant l = (length l.flags ≡ 4096) × AllWithin (λ (grant : Triple). may_have l.flags grant.2 ≡ true) l.grants 0 l.grant-index
