use Rattle.std.proofs.Common.{length, sym, ap, ◌∙◌}
use Rattle.std.specs.Prelude.{not, nat_eq}
use Rattle.rbac_sets.specs.Sets.{Pair, any, members, pair_cmp, same_name}
use Rattle.rbac_sets.specs.SortedSet.{set_of}
use Rattle.rbac_sets.proofs.Lists.{any_filter}
use Rattle.chunked_sets.proofs.Emptiness.{by_length}
use Rattle.review_mgr.proofs.lookup.has_first.Goals as goal

pub returns : goal.returns
unfolding any
returns c =
    ap not (by_length c.with_first.result c.is_empty.result c.is_empty.ensures ∙ ap (λ run. nat_eq (length run) 0) c.with_first.ensures)
    ∙ sym (any_filter (λ (pair : Pair). same_name pair.0 c.args.first.now) (members (set_of pair_cmp c.args.pairs.now)))
