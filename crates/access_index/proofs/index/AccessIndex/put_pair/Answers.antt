use Rattle.std.proofs.Common.{◌≡◌, sym, ◌∙◌, ap, subst}
use Rattle.rbac_sets.specs.Sets.{Bytes}
use Rattle.rbac_sets.specs.declared.row.Row.TheVariants.{PairRow}
use Rattle.rbac_sets.specs.declared.row.TheConstants.Row.{CLOSURE_PAIR}
use Rattle.rbac_sets.specs.declared.row.Change.TheVariants.{Put}
use Rattle.access_index.specs.Index.{Keeps, number_of}
use Rattle.access_index.specs.private.Changing.{rows_by}
use Rattle.access_index.proofs.IndexLaws.{keeps_put_junior, on_four}
use Rattle.access_index.proofs.index.AccessIndex.put_pair.Goals as goal

pub returns-clause-ok : goal.returns-clause-ok
returns-clause-ok c =
    on_four c.put_junior.result _ _ _ _ _
    (λ there others turned rest rows keeps.
    subst (λ index. Keeps index (rows_by rows (Put (PairRow CLOSURE_PAIR c.args.senior.now c.args.junior.now)))) (sym rest)
    (let index = c.forget_all_authorized.new.self in
    let kept = c.forget_all_authorized.ensures.keeps rows (c.in_ok-below.ensures.keeps rows (c.in_ok-above.ensures.keeps rows keeps)) in
    let same : (role : Bytes) → number_of index role ≡ number_of c.number_for-2.new.self role = λ role. ap (λ i. number_of i role) c.forget_all_authorized.ensures.rest in
    keeps_put_junior index c.put_junior.new.self rows kept c.args.senior.now c.args.junior.now c.in_ok-above.above c.in_ok-below.below
    (same c.args.senior.now ∙ c.in_ok-below.ensures.others c.args.senior.now c.in_ok-above.above c.in_ok-above.ensures.number) (same c.args.junior.now ∙ c.in_ok-below.ensures.number) others (turned kept.turned)
    c.forget_all_authorized.ensures.none there))
    c.put_junior.ensures.there c.put_junior.ensures.others c.put_junior.ensures.turned c.put_junior.ensures.rest
