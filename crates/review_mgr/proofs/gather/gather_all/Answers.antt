use Rattle.std.proofs.Common.{◌≡◌, rules, true, subst}
use Rattle.std.specs.Prelude.{IfOk}
use Rattle.rbac_sets.specs.Sets.{image, members}
use Rattle.review_mgr.proofs.Gathering.{retain-always}
use Rattle.review_mgr.proofs.gather.gather_all.Goals as goal

pub returns-clause-ok : goal.returns-clause-ok
returns-clause-ok g c = λ all is gives parts.
    subst (λ s. IfOk c.gather.result (λ entries. entries.items ≡ members (image {Q = g.K.Ord.cmp} gives s))) (retain-always g.met.A.Ord.total g.met.A.Entry.exact all)
    (c.gather.ensures.ok all is (λ x. true) gives (λ x b k. search rules) parts)
