use Rattle.std.proofs.Common.{rules, sym, ◌∙◌}
use Rattle.rbac_sets.specs.Sets.{Pair, pair_cmp, same_name, retain, image, seconds}
use Rattle.rbac_sets.specs.SortedSet.{set_of}
use Rattle.rbac_sets.specs.NameOrder.{pair_exact, pair_total}
use Rattle.rbac_sets.proofs.Members.{members-retain}
use Rattle.review_mgr.proofs.gather.seconds_of.Goals as goal

pub returns-clause-ok : goal.returns-clause-ok
unfolding seconds image
returns-clause-ok g c =
    c.gather_all.ensures.ok (retain (set_of pair_cmp (g.P.EntrySet.stored c.args.pairs.now)) (λ (pair : Pair). same_name pair.0 c.args.first.now))
    (c.entries_with_first.ensures ∙ sym (members-retain pair_total pair_exact _ _)) (λ (pair : Pair). pair.1) (λ x p k. search rules)
