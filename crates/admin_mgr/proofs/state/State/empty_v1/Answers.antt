use Rattle.std.proofs.Common.{subst, sym, refl, inl}
use Rattle.admin_mgr.specs.Good.{IsGood}
use Rattle.admin_mgr.specs.StateNames.{AreNamed}
use Rattle.admin_mgr.proofs.StateAfter.EmptyLaws.{empty_is_good}
use Rattle.admin_mgr.proofs.StateAfter.NamedLaws.{empty_named}
use Rattle.admin_mgr.proofs.state.State.empty_v1.Goals as goal

pub invariant_of-result : goal.invariant_of-result
invariant_of-result c = subst (λ S. IsGood S × AreNamed S) (sym c.empty.ensures) (empty_is_good 1 (inl refl), empty_named 1)
