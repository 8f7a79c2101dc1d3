use Rattle.std.proofs.Common.{IfSome, sym, subst}
use Rattle.admin_mgr.specs.Changes.{Turns}
use Rattle.admin_mgr.specs.PlanEffect.{LeadsTo}
use Rattle.access_index.specs.Index.{Indexes}
use Rattle.role_lines.specs.StateWithSeed.{StateWithSeed}
use Rattle.role_lines.proofs.Results.{if_some-both, if_some-then}
use Rattle.role_lines.proofs.indexed.IndexedState.commit.Goals as goal

pub follow-requires : goal.follow-requires
follow-requires c =
    let S = c.self.inside.state.facts in
    if_some-then c.self.inside.index _ _ (λ old kept. (S, kept.0)) c.self.invariant

pub commit-report-requires-clause-planned : goal.commit-report-requires-clause-planned
commit-report-requires-clause-planned c =
    (c.requires.planned.0, subst (λ (kept : StateWithSeed). LeadsTo kept.facts c.args.plan c.requires.planned.0) (sym c.self.view_is) c.requires.planned.1)

pub find_barred-requires : goal.find_barred-requires
find_barred-requires c =
    let S = c.self.inside.state.facts in
    let T = c.requires.planned.0 in
    let leads = subst (λ (kept : StateWithSeed). LeadsTo kept.facts c.args.plan T) (sym c.self.view_is) c.requires.planned.1 in
    subst (λ X. IfSome c.follow.new.index (λ index. Indexes index X)) (sym (c.commit-report.ensures.state T leads))
    (c.follow.ensures.indexes S T (if_some-then c.self.inside.index _ _ (λ old kept. kept.0) c.self.invariant) (subst (λ changes. Turns S changes T) (sym c.changes.ensures) leads.rows) leads.good)

pub invariant_of-self : goal.invariant_of-self
invariant_of-self c =
    let seed = c.self.inside.seed in
    if_some-both _ _ _ c.find_barred.ensures.indexes
    (c.find_barred.ensures.seeded seed (c.follow.ensures.seeded seed (if_some-then c.self.inside.index _ _ (λ old kept. kept.1) c.self.invariant)))
