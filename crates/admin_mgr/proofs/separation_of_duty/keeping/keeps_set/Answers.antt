use Rattle.std.proofs.Common.{◌++◌, [], map, refl, sym, subst, ◌∙◌, ap}
use Rattle.std.specs.List.Sorted.{IsStrictlySortedBy}
use Rattle.rbac_sets.specs.Sets.{members, name_cmp}
use Rattle.rbac_sets.proofs.Members.{members-rise}
use Rattle.order_matrix.specs.Table.{numbers_of, table_of}
use Rattle.admin_mgr.specs.RbacState.{RbacState}
use Rattle.admin_mgr.specs.private.HolderRoles.{run_of}
use Rattle.admin_mgr.specs.private.Holders.{runs_of}
use Rattle.admin_mgr.specs.private.NumberedSeparation.{keep_below}
use Rattle.admin_mgr.specs.private.SeparationOfDuty.{sets_of}
use Rattle.admin_mgr.proofs.Verdicts.KeepLaws.{kept_members, larger}
use Rattle.admin_mgr.proofs.Verdicts.NumberLaws.{below_is, members_run_is_there, roles_are_there, runs_are_there}
use Rattle.admin_mgr.proofs.separation_of_duty.keeping.keeps_set.Goals as goal

pub returns-then-cardinality-before-clause-ok : goal.returns-then-cardinality-before-clause-ok
returns-then-cardinality-before-clause-ok c = sym (larger c.args.duty c.args.state.now.facts c.recall_good.ensures c.args.set.now c.args.before c.args.cardinality c.requires.there c.if-cardinality-before.true)

pub second_numbers-requires : goal.second_numbers-requires
second_numbers-requires c = subst (IsStrictlySortedBy name_cmp) (sym c.as_slice.ensures) (members-rise name_cmp _)

pub returns-clause-ok : goal.returns-clause-ok
returns-clause-ok c =
    let S = c.args.state.now.facts in
    let sets = sets_of c.args.duty S in
    let formed = roles_are_there S c.recall_good.ensures.well_formed in
    let same = ap (λ r. r.facts) c.relations-relations.ensures in
    let run = c.of-members.ensures ∙ c.with_first.ensures ∙ ap (λ pairs. run_of pairs c.args.set.now) c.members.ensures in
    let roles = c.as_slice.ensures ∙ ap members (c.roles.ensures ∙ ap (λ (T : RbacState). T.roles) same) in
    let wanted = c.deref.ensures.value ∙ c.in_ok-wanted.ensures.ok ∙ (λ i. numbers_of (roles i) (run i)) in
    c.in_ok-kept.ensures.ok
    ∙ (λ i. keep_below (table_of (same i).edges (members (same i).roles)) (map (λ run. numbers_of (members (same i).roles) run ++ []) (runs_of c.args.duty (same i))) (wanted i) c.args.cardinality)
    ∙ below_is S.roles S.edges _ refl (runs_of c.args.duty S) (runs_are_there S formed c.args.duty) (run_of sets.members c.args.set.now) (members_run_is_there S formed c.args.duty c.args.set.now) c.args.cardinality
    ∙ sym (kept_members c.args.duty S sets c.args.set.now c.args.cardinality)
