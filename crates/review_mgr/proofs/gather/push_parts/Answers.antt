use Rattle.std.proofs.Common.{refl, sym, ◌∙◌, ap, [], ◌∷◌, ◌++◌, map}
use Rattle.std.proofs.lemmas.Fn.{says_at}
use Rattle.chunked_sets.specs.Entries.{entries_left}
use Rattle.review_mgr.proofs.Gathering.{split_next, split_whole}
use Rattle.review_mgr.proofs.ByRole.{added_none, added_one}
use Rattle.review_mgr.proofs.gather.push_parts.Goals as goal

pub loop-item-init : goal.loop-item-init
loop-item-init g c = ([], sym (ap entries_left c.into_iter-item-iterator.ensures.into_iter_gives ∙ c.iter-item-items.ensures), λ gives parts. added_none gives _)

pub loop-item-preserved : goal.loop-item-preserved
loop-item-preserved g c =
    let done = c.loop-item.invariant.0 in
    let item = c.in-Some.item.now in (
      done ++ item ∷ [],
      split_next c.args.items.now done _ _ item c.in-Some.ensures.steps c.loop-item.invariant.1,
      λ gives parts.
          added_one gives c.args.entries.now.items _ _ done item _ c.in_ok-push.ensures.items
          (c.in_ok-to_entry.ensures.ok ∙ parts _ _ (says_at g.F.Fn c.part.ensures refl)) (c.loop-item.invariant.2 gives parts),
    )

pub returns-clause-pushed : goal.returns-clause-pushed
returns-clause-pushed g c = λ gives parts.
    c.loop-item.invariant.2 gives parts
    ∙ ap (λ ys. c.args.entries.now.items ++ map gives ys) (sym (split_whole c.args.items.now c.loop-item.invariant.0 _ c.in-None.ensures.steps.0 c.loop-item.invariant.1))
