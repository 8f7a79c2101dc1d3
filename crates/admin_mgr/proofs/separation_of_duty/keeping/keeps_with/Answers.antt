use Rattle.std.proofs.Common.{◌++◌, [], ◌∷◌, map, true, ◌≡◌, refl, sym, subst, ◌∙◌, ap}
use Rattle.std.specs.List.Sorted.{IsStrictlySortedBy}
use Rattle.std.proofs.lemmas.List.{map-append}
use Rattle.std.proofs.lemmas.Simd.{map-map}
use Rattle.rbac_sets.specs.Sets.{Bytes, Pair, contains, members, name_cmp}
use Rattle.rbac_sets.proofs.Members.{members-rise}
use Rattle.order_matrix.specs.Table.{number_in, numbers_of, table_of}
use Rattle.admin_mgr.specs.RbacState.{RbacState}
use Rattle.admin_mgr.specs.private.HolderRoles.{run_of}
use Rattle.admin_mgr.specs.private.Holders.{runs_of}
use Rattle.admin_mgr.specs.private.NumberedSeparation.{keep_below}
use Rattle.admin_mgr.specs.private.SeparationOfDuty.{sets_of}
use Rattle.admin_mgr.proofs.Verdicts.KeepLaws.{kept_with_names}
use Rattle.admin_mgr.proofs.Verdicts.NumberLaws.{below_names_is, members_and_one_are_there, roles_are_there, runs_are_there}
use Rattle.admin_mgr.proofs.separation_of_duty.keeping.keeps_with.Goals as goal

pub second_numbers-requires : goal.second_numbers-requires
second_numbers-requires c = subst (IsStrictlySortedBy name_cmp) (sym c.as_slice-roles.ensures) (members-rise name_cmp _)

pub number-requires : goal.number-requires
number-requires c = subst (IsStrictlySortedBy name_cmp) (sym c.as_slice-roles.ensures) (members-rise name_cmp _)

pub returns-clause-ok : goal.returns-clause-ok
returns-clause-ok c =
    let S = c.args.state.now.facts in
    let pairs = run_of (sets_of c.args.duty S).members c.args.set.now in
    let role = c.args.role.now in
    let number = number_in (members S.roles) in
    let second : Pair → Bytes = λ pair. pair.1 in
    let formed = roles_are_there S c.recall_good.ensures.well_formed in
    let same = ap (λ r. r.facts) c.relations-relations.ensures in
    let here : contains S.roles role ≡ true = sym (ap (λ names. contains names role) c.roles.ensures) ∙ sym c.contains.ensures ∙ c.if-not-contains.false in
    let run = c.of.ensures ∙ c.with_first.ensures ∙ ap (λ pairs. run_of pairs c.args.set.now) c.members.ensures in
    let roles = c.as_slice-roles.ensures ∙ ap members (c.roles-2.ensures ∙ ap (λ (T : RbacState). T.roles) same) in
    let wanted = c.deref.ensures.value ∙ c.in_ok-push.ensures.items
    ∙ (λ i. (c.in_ok-wanted.ensures.ok ∙ (λ k. numbers_of (roles k) (run k))) i ++ (c.number.ensures.number ∙ (λ k. number_in (roles k) role)) i ∷ [])
    ∙ sym (map-append number (map second pairs) (role ∷ []) ∙ ap (λ ns. ns ++ number role ∷ []) (map-map number second pairs)) in
    c.in_ok-kept.ensures.ok
    ∙ (λ i. keep_below (table_of (same i).edges (members (same i).roles)) (map (λ run. numbers_of (members (same i).roles) run ++ []) (runs_of c.args.duty (same i))) (wanted i) c.args.cardinality)
    ∙ below_names_is S.roles S.edges _ refl (runs_of c.args.duty S) (runs_are_there S formed c.args.duty) (map second pairs ++ role ∷ [])
    (members_and_one_are_there S formed c.args.duty c.args.set.now role here) c.args.cardinality
    ∙ kept_with_names c.args.duty S c.recall_good.ensures c.args.set.now role c.args.cardinality c.requires.there c.requires.absent
