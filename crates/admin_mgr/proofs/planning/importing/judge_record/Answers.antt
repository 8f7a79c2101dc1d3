use Rattle.std.proofs.Common.{◌++◌, sym, ◌∙◌, ap}
use Rattle.std.specs.Option.{option_map}
use Rattle.rbac_sets.specs.Sets.{Cardinality, members, pair_cmp}
use Rattle.rbac_sets.specs.SortedSet.{set_of}
use Rattle.rbac_sets.specs.declared.refusal.Refusal.TheVariants.{StaticSeparation}
use Rattle.admin_mgr.specs.private.ImportPlan.{record_refusals}
use Rattle.admin_mgr.specs.private.HolderRoles.{run_of, find_with_one}
use Rattle.admin_mgr.proofs.Imports.RecordLaws.{named_last, record_verdict}
use Rattle.admin_mgr.proofs.Verdicts.VerdictLaws.{stopped, last_decides, none_unless_some}
use Rattle.admin_mgr.proofs.planning.importing.judge_record.Goals as goal

pub returns-in-Some : goal.returns-in-Some
returns-in-Some c =
    stopped (record_refusals c.args.state.now.facts (set_of pair_cmp c.args.added.now) (c.args.user.now, c.args.role.now))
    (named_last c.args.state.now.facts (set_of pair_cmp c.args.added.now) c.args.user.now c.args.role.now) c.in-Some.refusal (sym c.refuse_record.ensures ∙ c.in-Some.is)
    ∙ sym (record_verdict c.args.state.now.facts (set_of pair_cmp c.args.added.now) c.requires.good c.requires.apart c.args.user.now c.args.role.now)

pub returns : goal.returns
returns c =
    let none = sym c.refuse_record.ensures ∙ none_unless_some _ c.in_default.not-Some in
    c.in_ok-named.ensures
    ∙ ap (λ o. option_map StaticSeparation (option_map (λ (entry : Cardinality). entry.0) o)) (c.first_with_both-violated.ensures
    ∙ (λ i. find_with_one (c.order.ensures i) ((c.with_first-held.ensures ∙ ap (λ s. run_of s c.args.user.now) c.assignments.ensures) i ++ c.with_first-more.ensures i) c.args.role.now (c.ssd_members.ensures i)
    ((c.as_slice-sets.ensures ∙ ap members c.ssd_cardinalities.ensures) i)))
    ∙ sym (last_decides (record_refusals c.args.state.now.facts (set_of pair_cmp c.args.added.now) (c.args.user.now, c.args.role.now))
    (named_last c.args.state.now.facts (set_of pair_cmp c.args.added.now) c.args.user.now c.args.role.now) none)
    ∙ sym (record_verdict c.args.state.now.facts (set_of pair_cmp c.args.added.now) c.requires.good c.requires.apart c.args.user.now c.args.role.now)
