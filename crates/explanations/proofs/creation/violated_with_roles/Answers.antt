use Rattle.std.proofs.Common.{◌≡◌, Bool, cond, List, [], ap, sym, ◌∙◌}
use Rattle.std.proofs.lemmas.List.{append-nil}
use Rattle.rbac_sets.specs.Sets.{Cardinality, Pair, pair_cmp}
use Rattle.rbac_sets.specs.SortedSet.{set_of}
use Rattle.admin_mgr.specs.private.HolderRoles.{has_all, run_of}
use Rattle.explanations.specs.private.Found.{had_members}
use Rattle.explanations.proofs.SessionCreation.{joined_all, joined_more}
use Rattle.explanations.proofs.creation.violated_with_roles.Goals as goal
use Rattle.explanations.proofs.creation.violated_with_roles.Goals.{then-has_all+in_ok-push_had, else-has_all}

pub loop-set-preserved : goal.loop-set-preserved
loop-set-preserved c =
    let members_of : Cardinality → List Pair = λ entry. run_of (set_of pair_cmp c.args.members.now) entry.0 in
    let test : Cardinality → Bool = λ entry. has_all c.args.order.now.edges c.args.roles.now (members_of entry) entry.1 in
    let had : Cardinality → List Pair = λ entry. had_members c.args.order.now.edges c.args.roles.now (members_of entry) in
    let tested : c.has_all.result ≡ test c.set-item.result =
    c.has_all.ensures ∙ ap (λ rows. has_all c.args.order.now.edges c.args.roles.now rows c.set-item.result.1) c.with_first-members.ensures in
    elim c.if-has_all.branch [
      | then-has_all+in_ok-push_had w ↦ rw w.pairs-is (
          joined_more (λ entry. cond (test entry) (had entry) []) c.args.sets.now c.loop-set.set-index c.set-item.result c.loop-set-test.true c.set-item.is c.loop-set.pairs.items c.loop-set.invariant
          (had_members c.args.order.now.edges c.args.roles.now c.with_first-members.result.now)
          (ap (λ b. cond b (had c.set-item.result) []) (sym tested ∙ w.if-has_all.true) ∙ ap (had_members c.args.order.now.edges c.args.roles.now) (sym c.with_first-members.ensures))
          w.push_had.new.pairs.items w.in_ok-push_had.ensures.ok)
      | else-has_all w ↦ rw w.pairs-is (
          joined_more (λ entry. cond (test entry) (had entry) []) c.args.sets.now c.loop-set.set-index c.set-item.result c.loop-set-test.true c.set-item.is c.loop-set.pairs.items c.loop-set.invariant
          [] (ap (λ b. cond b (had c.set-item.result) []) (sym tested ∙ w.if-has_all.false))
          c.loop-set.pairs.items (sym (append-nil c.loop-set.pairs.items)))
    ]

pub returns-clause-ok : goal.returns-clause-ok
returns-clause-ok c = joined_all _ c.args.sets.now c.loop-set.set-index c.loop-set.pairs.items c.loop-set.invariant c.loop-set-test.false
