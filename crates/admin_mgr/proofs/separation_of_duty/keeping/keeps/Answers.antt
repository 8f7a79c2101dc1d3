use Rattle.std.proofs.Common.{◌++◌, [], map, true, ◌≡◌, refl, sym, subst, ◌∙◌, ap}
use Rattle.std.specs.List.{list_all}
use Rattle.std.specs.List.Sorted.{IsStrictlySortedBy}
use Rattle.rbac_sets.specs.Sets.{contains, members, name_cmp}
use Rattle.rbac_sets.specs.SortedSet.{set_of}
use Rattle.rbac_sets.proofs.Members.{members-rise}
use Rattle.order_matrix.specs.Table.{number_in, numbers_of, table_of}
use Rattle.admin_mgr.specs.RbacState.{RbacState}
use Rattle.admin_mgr.specs.private.Holders.{runs_of}
use Rattle.admin_mgr.specs.private.NumberedSeparation.{keep_below}
use Rattle.admin_mgr.proofs.Verdicts.KeepLaws.{kept_by_runs}
use Rattle.admin_mgr.proofs.Verdicts.NumberLaws.{below_names_is, roles_are_there, runs_are_there}
use Rattle.admin_mgr.proofs.separation_of_duty.keeping.keeps.Goals as goal

pub name_numbers-requires : goal.name_numbers-requires
name_numbers-requires c = subst (IsStrictlySortedBy name_cmp) (sym c.as_slice-2.ensures) (members-rise name_cmp _)

pub returns-clause-ok : goal.returns-clause-ok
returns-clause-ok c =
    let S = c.args.state.now.facts in
    let same = ap (λ r. r.facts) c.relations-relations.ensures in
    let names = set_of name_cmp c.args.roles.now in
    let there : list_all (contains S.roles) (members names) ≡ true =
    sym (λ i. list_all (contains (c.roles.ensures i)) (c.as_slice.ensures i)) ∙ sym c.are_in.ensures ∙ c.if-not-are_in.false in
    let roles = c.as_slice-2.ensures ∙ ap members (c.roles-2.ensures ∙ ap (λ (T : RbacState). T.roles) same) in
    let wanted = c.deref.ensures.value ∙ c.in_ok-wanted.ensures.ok ∙ (λ i. map (number_in (roles i)) (c.as_slice-3.ensures i)) in
    c.in_ok-kept.ensures.ok
    ∙ (λ i. keep_below (table_of (same i).edges (members (same i).roles)) (map (λ run. numbers_of (members (same i).roles) run ++ []) (runs_of c.args.duty (same i))) (wanted i) c.args.cardinality)
    ∙ below_names_is S.roles S.edges _ refl (runs_of c.args.duty S) (runs_are_there S (roles_are_there S c.recall_good.ensures.well_formed) c.args.duty) (members names) there c.args.cardinality
    ∙ sym (kept_by_runs c.args.duty S names c.args.cardinality)
