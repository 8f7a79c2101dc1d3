use Rattle.std.proofs.Common.{◌≡◌, ◌+◌, ◌||◌, length, take, sym, ◌∙◌, ap, subst, arith}
use Rattle.std.specs.List.{list_any}
use Rattle.std.proofs.lemmas.List.{take_all}
use Rattle.bit_rows.specs.Rows.{has}
use Rattle.rbac_sets.specs.Sets.{members}
use Rattle.access_index.specs.declared.index.AccessIndex.{AccessIndex}
use Rattle.access_index.proofs.LevelLaws.{are_barred, set_there, violates, violates_more}
use Rattle.access_index.proofs.index.AccessIndex.barred_in.Goals as goal

pub barred_by-requires-clause-set : goal.barred_by-requires-clause-set
barred_by-requires-clause-set c =
    set_there c.args.state.now.facts c.dynamic_sets-set-items.result.now c.dynamic_sets-set-items.ensures c.loop-set.set-index c.set-item.result c.loop-set-test.true c.set-item.is

pub loop-set-preserved : goal.loop-set-preserved
loop-set-preserved c =
    let S = c.args.state.now.facts in
    let first = c.args.self.now in
    let sets = c.dynamic_sets-set-items.result.now in
    let set = c.set-item.result in
    let before = c.loop-set.invariant in (
      c.barred_by.ensures.keeps,
      c.barred_by.ensures.rest ∙ ap {A = AccessIndex} {B = AccessIndex} (λ index. record index { by_set = c.barred_by.new.self.by_set }) before.1,
      λ n. subst (λ all. has c.put_all.new.self n ≡ list_any (violates first S n) (take (c.loop-set.set-index + 1) all)) c.dynamic_sets-set-items.ensures
          (violates_more first S n sets c.loop-set.set-index set (has c.loop-set.barred n) (has c.put_all.new.self n) c.loop-set-test.true c.set-item.is
          (before.2 n ∙ ap (λ all. list_any (violates first S n) (take c.loop-set.set-index all)) (sym c.dynamic_sets-set-items.ensures))
          (c.in_ok-put_all.ensures.all n ∙ ap (λ x. has c.loop-set.barred n || x) (c.in_ok-row.ensures.ok n ∙ ap (λ index. violates index S n set) before.1))),
    )

pub returns-clause-ok : goal.returns-clause-ok
returns-clause-ok c =
    let S = c.args.state.now.facts in
    let size = ap length c.dynamic_sets-set-items.ensures in
    are_barred c.loop-set.self S c.loop-set.invariant.0 c.requires.good c.loop-set.barred
    (λ n. c.loop-set.invariant.2 n ∙ ap (list_any (violates c.args.self.now S n)) (take_all c.loop-set.set-index (members S.dsd.cardinalities) (omega (arith, size, c.loop-set-test.false)))
    ∙ sym (ap (λ index. list_any (violates index S n) (members S.dsd.cardinalities)) c.loop-set.invariant.1))
