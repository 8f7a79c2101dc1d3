use Rattle.std.proofs.Common.{◌≡◌, Bool, ap, sym, ◌∙◌, ◌++◌, ◌∷◌, []}
use Rattle.rbac_sets.specs.Sets.{Bytes, Cardinality, pair_cmp}
use Rattle.rbac_sets.specs.SortedSet.{set_of}
use Rattle.order_matrix.specs.Table.{numbers_of}
use Rattle.admin_mgr.specs.private.HolderRoles.{run_of}
use Rattle.explanations.specs.private.Numbered.{has_too_many}
use Rattle.explanations.proofs.KeptNames.{kept_all, kept_more, kept_same}
use Rattle.explanations.proofs.conflicts.numbered_violated.Goals as goal
use Rattle.explanations.proofs.conflicts.numbered_violated.Goals.{then-has_too_many+in_ok-copy+in_ok-push, else-has_too_many}

pub loop-set-preserved : goal.loop-set-preserved
loop-set-preserved c =
    let test : Cardinality → Bool = λ set. has_too_many c.args.table.now c.args.held.now (numbers_of c.args.roles.now (run_of (set_of pair_cmp c.args.members.now) set.0)) set.1 in
    let tested : c.has_too_many.result ≡ test c.set-item.result =
    c.has_too_many.ensures
    ∙ ap (λ members. has_too_many c.args.table.now c.args.held.now members c.set-item.result.1) (c.deref.ensures.value ∙ c.in_ok-members.ensures.ok ∙ ap (numbers_of c.args.roles.now) (c.of.ensures ∙ c.with_first.ensures)) in
    elim c.if-has_too_many.branch [
      | then-has_too_many+in_ok-copy+in_ok-push w ↦ rw w.names-is (
          kept_more (λ (entry : Cardinality). entry.0) test c.args.sets.now c.loop-set.set-index c.set-item.result c.loop-set-test.true c.set-item.is c.loop-set.names.items c.loop-set.invariant
          (sym tested ∙ w.if-has_too_many.true) w.push.new.self.items
          (w.in_ok-push.ensures.items ∙ ap (λ (name : Bytes). c.loop-set.names.items ++ name ∷ []) w.in_ok-copy.ensures.ok))
      | else-has_too_many w ↦ rw w.names-is (
          kept_same (λ (entry : Cardinality). entry.0) test c.args.sets.now c.loop-set.set-index c.set-item.result c.loop-set-test.true c.set-item.is c.loop-set.names.items c.loop-set.invariant
          (sym tested ∙ w.if-has_too_many.false))
    ]

pub returns-clause-ok : goal.returns-clause-ok
returns-clause-ok c = kept_all (λ (entry : Cardinality). entry.0) _ c.args.sets.now c.loop-set.set-index c.loop-set.names.items c.loop-set.invariant c.loop-set-test.false
