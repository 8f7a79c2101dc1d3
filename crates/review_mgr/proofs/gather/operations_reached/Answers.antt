use Rattle.std.proofs.Common.{rules, sym, ◌∙◌}
use Rattle.rbac_sets.specs.Sets.{Triple, triple_cmp, same_name, retain}
use Rattle.rbac_sets.specs.SortedSet.{set_of}
use Rattle.rbac_sets.specs.NameOrder.{triple_exact, triple_total}
use Rattle.rbac_sets.proofs.Members.{members-retain}
use Rattle.admin_mgr.specs.private.HolderRoles.{is_reached}
use Rattle.review_mgr.proofs.gather.operations_reached.Goals as goal

pub returns-clause-ok : goal.returns-clause-ok
returns-clause-ok c =
    c.gather.ensures.ok (retain (set_of triple_cmp c.args.grants.now) (λ (grant : Triple). same_name grant.0 c.args.object.now))
    (c.with_first.ensures ∙ sym (members-retain triple_total triple_exact _ _))
    (λ (grant : Triple). is_reached c.args.order.now.edges c.args.held.now grant.2) (λ (grant : Triple). grant.1) (λ x b k. search rules) (λ x p k. search rules)
