use Rattle.std.proofs.Common.{◌≡◌, false, List, nat_lt, sym, ◌∙◌, ap}
use Rattle.std.specs.List.{list_all, list_any}
use Rattle.rbac_sets.specs.Sets.{Cardinality, Pair, all, contains, members}
use Rattle.admin_mgr.specs.private.HolderRoles.{find_violated, is_reached, is_touched, reached_with, run_of}
use Rattle.admin_mgr.specs.private.SeparationOfDuty.{sets_of}
use Rattle.admin_mgr.proofs.Verdicts.NumberLaws.{left_are_there, members_are_there, roles_are_there}
use Rattle.admin_mgr.proofs.Verdicts.TouchLaws.{no_violation}
use Rattle.admin_mgr.proofs.separation_of_duty.inheritance.first_violated.Goals as goal

pub returns-then-not-touches_some : goal.returns-then-not-touches_some
returns-then-not-touches_some c =
    let S = c.args.state.now.facts in
    let sets = sets_of c.args.duty S in
    let touched = λ (entry : Cardinality). is_touched S.edges c.args.desc.now (run_of sets.members entry.0) in
    let none : list_any touched (members sets.cardinalities) ≡ false =
    sym (λ i. list_any (λ (entry : Cardinality). is_touched (c.order.ensures i) c.args.desc.now (run_of (c.members-members.ensures i) entry.0)) ((c.as_slice-sets.ensures ∙ ap members c.cardinalities.ensures) i))
    ∙ sym c.touches_some.ensures ∙ c.if-not-touches_some.true in
    sym (no_violation touched (λ (entry : Cardinality). list_all (λ (held : List Pair). nat_lt (reached_with S.edges held c.args.desc.now (run_of sets.members entry.0)) entry.1) _) (members sets.cardinalities) none)

pub find_violated-requires-clause-runs : goal.find_violated-requires-clause-runs
find_violated-requires-clause-runs c =
    let S = c.args.state.now.facts in
    let there = λ (pair : Pair). contains S.roles pair.1 in
    ap (list_all (list_all there)) (c.deref.ensures.value ∙ c.in_ok-runs.ensures)
    ∙ left_are_there S (roles_are_there S c.recall_good.ensures.well_formed) c.args.duty (λ held. is_reached S.edges held c.args.asc.now)

pub find_violated-requires-clause-members : goal.find_violated-requires-clause-members
find_violated-requires-clause-members c =
    let S = c.args.state.now.facts in
    ap (all (λ (pair : Pair). contains S.roles pair.1)) c.members-members.ensures ∙ members_are_there S (roles_are_there S c.recall_good.ensures.well_formed) c.args.duty

pub returns-in-Ok : goal.returns-in-Ok
returns-in-Ok c =
    c.in-Ok.ensures
    ∙ (λ i. find_violated c.args.state.now.facts.edges ((c.deref.ensures.value ∙ c.in_ok-runs.ensures) i) c.args.desc.now (c.members-members.ensures i) ((c.as_slice-sets.ensures ∙ ap members c.cardinalities.ensures) i))
