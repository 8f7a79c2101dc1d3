use Rattle.std.proofs.Common.{◌≡◌, sym, ◌∙◌, ap, subst}
use Rattle.rbac_sets.specs.Sets.{Bytes}
use Rattle.rbac_sets.specs.declared.row.Row.TheVariants.{PairRow}
use Rattle.rbac_sets.specs.declared.row.TheConstants.Row.{CLOSURE_PAIR}
use Rattle.rbac_sets.specs.declared.row.Change.TheVariants.{Take}
use Rattle.access_index.specs.Index.{Keeps, number_of}
use Rattle.access_index.specs.private.Changing.{rows_by}
use Rattle.access_index.proofs.IndexLaws.{keeps_take_junior, keeps_take_absent, not_junior, absent_senior}
use Rattle.access_index.proofs.index.AccessIndex.take_pair.Goals as goal

pub returns-in-Some-number-clause-keeps : goal.returns-in-Some-number-clause-keeps
returns-in-Some-number-clause-keeps c rows keeps =
    subst (λ index. Keeps index (rows_by rows (Take (PairRow CLOSURE_PAIR c.args.senior.now c.args.junior.now)))) (sym c.take_junior.ensures.rest)
    (let index = c.forget_all_authorized.new.self in
    let kept = c.forget_all_authorized.ensures.keeps rows keeps in
    let same : (role : Bytes) → number_of index role ≡ number_of c.args.self.now role = λ role. ap (λ i. number_of i role) c.forget_all_authorized.ensures.rest in
    keeps_take_junior index c.take_junior.new.self rows kept c.args.senior.now c.args.junior.now c.in-Some.above c.in-Some-number.below
    (same c.args.senior.now ∙ sym c.number.ensures ∙ c.in-Some.is) (same c.args.junior.now ∙ sym c.number-in-Some.ensures ∙ c.in-Some-number.is) c.take_junior.ensures.others (c.take_junior.ensures.turned kept.turned)
    c.forget_all_authorized.ensures.none c.take_junior.ensures.gone)

pub returns-in_default-number-clause-keeps : goal.returns-in_default-number-clause-keeps
returns-in_default-number-clause-keeps c rows keeps =
    keeps_take_absent c.args.self.now rows keeps (PairRow CLOSURE_PAIR c.args.senior.now c.args.junior.now)
    (not_junior c.args.self.now rows keeps c.args.junior.now (sym c.number-in-Some.ensures ∙ c.in_default-number.is) c.args.senior.now)

pub returns-in_default-clause-keeps : goal.returns-in_default-clause-keeps
returns-in_default-clause-keeps c rows keeps =
    keeps_take_absent c.args.self.now rows keeps (PairRow CLOSURE_PAIR c.args.senior.now c.args.junior.now)
    (absent_senior c.args.self.now rows keeps c.args.senior.now (sym c.number.ensures ∙ c.in_default.is) c.args.junior.now)
