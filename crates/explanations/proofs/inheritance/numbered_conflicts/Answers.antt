use Rattle.std.proofs.Common.{◌≡◌, ℕ, List, map, sym, ◌∙◌, ap, ◌++◌, ◌∷◌, []}
use Rattle.std.specs.Prelude.{Option}
use Rattle.std.specs.Option.{option_copied, option_map}
use Rattle.rbac_sets.specs.Sets.{Bytes, Cardinality, Pair, pair_cmp}
use Rattle.rbac_sets.specs.SortedSet.{set_of}
use Rattle.order_matrix.specs.Table.{numbers_of}
use Rattle.admin_mgr.specs.private.HolderRoles.{run_of}
use Rattle.explanations.specs.private.Numbered.{first_violating}
use Rattle.explanations.proofs.Conflicting.{mapped_more, mapped_same}
use Rattle.explanations.proofs.inheritance.numbered_conflicts.Goals as goal
use Rattle.explanations.proofs.inheritance.numbered_conflicts.Goals.{in-Some+in_ok-copy+in_ok-copy-2+in_ok-push, in_default}

pub loop-set-preserved : goal.loop-set-preserved
loop-set-preserved c =
    let holders = map {B = Bytes × List ℕ} (λ one. (one.0.now, one.1.items)) c.args.holders.now in
    let holder : Cardinality → Option Bytes = λ set. first_violating c.args.table.now holders c.args.more (numbers_of c.args.roles.now (run_of (set_of pair_cmp c.args.members.now) set.0)) set.1 in
    let conflict : Cardinality → Option Pair = λ set. option_map (λ one. (set.0, one)) (holder set) in
    let found : option_copied c.first_violating.result ≡ holder c.set-item.result =
    c.first_violating.ensures
    ∙ ap (λ members. first_violating c.args.table.now holders c.args.more members c.set-item.result.1) (c.deref.ensures.value ∙ c.in_ok-members.ensures.ok ∙ ap (numbers_of c.args.roles.now) (c.of.ensures ∙ c.with_first.ensures)) in
    elim c.match-first_violating.branch [
      | in-Some+in_ok-copy+in_ok-copy-2+in_ok-push w ↦ rw w.conflicts-is (
          mapped_more conflict c.args.sets.now c.loop-set.set-index c.set-item.result c.loop-set-test.true c.set-item.is c.loop-set.conflicts.items c.loop-set.invariant
          (c.set-item.result.0, w.in-Some.holder.now) (ap (option_map (λ one. (c.set-item.result.0, one))) (sym found ∙ ap option_copied w.in-Some.is)) w.push.new.self.items
          (w.in_ok-push.ensures.items ∙ (λ i. c.loop-set.conflicts.items ++ (w.in_ok-copy.ensures.ok i, w.in_ok-copy-2.ensures.ok i) ∷ [])))
      | in_default w ↦ rw w.conflicts-is (
          mapped_same conflict c.args.sets.now c.loop-set.set-index c.set-item.result c.loop-set-test.true c.set-item.is c.loop-set.conflicts.items c.loop-set.invariant
          (ap (option_map (λ one. (c.set-item.result.0, one))) (sym found ∙ ap option_copied w.in_default.is)))
    ]
