use Rattle.std.proofs.Common.{refl, sym, ◌∙◌, ap, [], ◌∷◌, ◌++◌}
use Rattle.std.proofs.lemmas.Fn.{says_at}
use Rattle.rbac_sets.specs.Sets.{from_list, insert}
use Rattle.chunked_sets.specs.Entries.{entries_left}
use Rattle.review_mgr.proofs.Gathering.{sorted_start, gathers_start, gathers_put, gathers_skip, gathered-members, split_next, split_whole}
use Rattle.review_mgr.proofs.gather.gather.Goals as goal

pub loop-item-init : goal.loop-item-init
loop-item-init g c = (
  [],
  sym (ap entries_left c.into_iter-item-iterator.ensures.into_iter_gives ∙ c.iter-item-items.ensures),
  sorted_start g.K.Ord.cmp _ cc,
  λ passes gives tests parts. gathers_start g.met.A.Ord.total g.met.A.Entry.exact g.met.K.Ord.total g.met.K.Entry.exact passes gives _ cc,
)

pub put-requires : goal.put-requires
put-requires g c = c.loop-item.invariant.2

pub loop-item-preserved : goal.loop-item-preserved
loop-item-preserved g c =
    let done = c.loop-item.invariant.0 in
    let item = c.in-Some.item.now in (
      done ++ item ∷ [],
      split_next c.args.items.now done _ _ item c.in-Some.ensures.steps c.loop-item.invariant.1,
      c.loop-item.invariant.2,
      λ passes gives tests parts.
          gathers_skip g.met.A.Ord.total g.met.A.Entry.exact g.met.K.Ord.total g.met.K.Entry.exact passes gives done item _
          (c.loop-item.invariant.3 passes gives tests parts) (sym (tests _ _ (says_at g.T.Fn c.test.ensures refl)) ∙ c.if-test.false),
    )

pub loop-item-preserved-in-Continue-1 : goal.loop-item-preserved-in-Continue-1
loop-item-preserved-in-Continue-1 g c =
    let done = c.loop-item.invariant.0 in
    let item = c.in-Some.item.now in (
      done ++ item ∷ [],
      split_next c.args.items.now done _ _ item c.in-Some.ensures.steps c.loop-item.invariant.1,
      c.in_ok-put.ensures.sorted,
      λ passes gives tests parts.
          gathers_put g.met.A.Ord.total g.met.A.Entry.exact g.met.K.Ord.total g.met.K.Entry.exact passes gives done item _ _
          (c.loop-item.invariant.3 passes gives tests parts) (sym (tests _ _ (says_at g.T.Fn c.test.ensures refl)) ∙ c.if-test.true)
          c.in_ok-put.ensures.sorted
          (c.in_ok-put.ensures.put ∙ ap (insert (from_list {R = g.K.Ord.cmp} c.loop-item.entries.items)) (parts _ _ (says_at g.F.Fn c.part.ensures refl))),
    )

pub returns-clause-ok : goal.returns-clause-ok
returns-clause-ok g c = λ all is passes gives tests parts.
    gathered-members g.met.A.Ord.total g.met.A.Entry.exact g.met.K.Ord.total g.met.K.Entry.exact passes gives all c.loop-item.invariant.0 _
    (sym (split_whole c.args.items.now c.loop-item.invariant.0 _ c.in-None.ensures.steps.0 c.loop-item.invariant.1) ∙ is) (c.loop-item.invariant.3 passes gives tests parts)
