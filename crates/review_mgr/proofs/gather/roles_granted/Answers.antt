use Rattle.std.proofs.Common.{rules, sym, ◌∙◌}
use Rattle.rbac_sets.specs.Sets.{Triple, triple_cmp, retain}
use Rattle.rbac_sets.specs.SortedSet.{set_of}
use Rattle.rbac_sets.specs.NameOrder.{triple_exact, triple_total}
use Rattle.rbac_sets.proofs.Members.{members-retain}
use Rattle.review_mgr.specs.Review.{is_grant_of}
use Rattle.review_mgr.proofs.gather.roles_granted.Goals as goal

pub returns-clause-ok : goal.returns-clause-ok
returns-clause-ok c =
    c.gather_all.ensures.ok (retain (set_of triple_cmp c.args.grants.now) (is_grant_of c.args.object.now c.args.operation.now))
    (c.with_first.ensures ∙ sym (members-retain triple_total triple_exact _ _)) (λ (grant : Triple). grant.2) (λ x p k. search rules)
