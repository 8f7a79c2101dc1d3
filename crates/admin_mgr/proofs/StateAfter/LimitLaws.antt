-- An accepted command stays within the limits, and a set with room for one more entry does so with one more.
use Rattle.std.proofs.Common.{◌≡◌, ℕ, ◌+◌, ◌≤◌, arith}
use Rattle.std.specs.Prelude.{None}
use Rattle.std.specs.declared.cmp.Ordering.{Ordering}
use Rattle.std.specs.Cmp.{IsTotalOrder}
use Rattle.std.specs.FinSet.{FinSet}
use Rattle.std.proofs.lemmas.Bool.{ltb-false}
use Rattle.rbac_sets.specs.Sets.{insert, len}
use Rattle.rbac_sets.specs.Kind.{limit_of}
use Rattle.rbac_sets.specs.declared.kind.Kind.{Kind}
use Rattle.rbac_sets.proofs.Members.{len-insert-le}
use Rattle.admin_mgr.specs.RbacState.{RbacState}
use Rattle.admin_mgr.specs.Refusals.{is_too_many, too_many}
use Rattle.admin_mgr.proofs.Verdicts.VerdictLaws.{refuse_if-None}

-- a number that is not too many is within the limit
pub too_many-None : (S : RbacState) (kind : Kind) (number : ℕ) → too_many S kind number ≡ None → number ≤ limit_of kind S.version
too_many-None S kind number h = ltb-false (limit_of kind S.version) number (refuse_if-None (is_too_many S kind number) _ h)

-- if there is room for one more entry, a set with one more is within the limit
pub one_more_within : {K : Type 0} {R : K → K → Ordering} (total : IsTotalOrder R) (s : FinSet R) (x : K) (limit : ℕ) → len s + 1 ≤ limit → len (insert s x) ≤ limit
one_more_within total s x limit room = let more = len-insert-le total s x in omega (arith, more, room)
