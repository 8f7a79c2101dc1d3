use Rattle.std.proofs.Common.{◌≡◌, rules, List, ℕ, ◌&&◌, not, map, nat_lt, sym, ◌∙◌, ap}
use Rattle.std.specs.List.{list_all, list_any}
use Rattle.std.proofs.Math.ListN.{drop_of_length-le}
use Rattle.std.proofs.lemmas.List.Folds.{list_all-map}
use Rattle.rbac_sets.specs.Sets.{Cardinality, pair_cmp}
use Rattle.rbac_sets.specs.SortedSet.{set_of}
use Rattle.order_matrix.specs.Table.{Table, entry, numbers_of}
use Rattle.admin_mgr.specs.private.HolderRoles.{run_of}
use Rattle.admin_mgr.specs.private.NumberedSeparation.{is_violated_by, count_reached, first_violated_by}
use Rattle.admin_mgr.proofs.PlanRows.ListLaws.{found_here, found_later}
use Rattle.admin_mgr.proofs.separation_of_duty.by_number.first_violated_by.Goals as goal

-- whether a set is violated, by the numbers of its members
violated_by_numbers : {X : Type 0} (run : X → List ℕ) (runs : List X) (table : Table) (role : ℕ) (members wanted : List ℕ) (n : ℕ) → members ≡ wanted
    → is_violated_by table (map run runs) role wanted n ≡ (list_any (λ member. entry table role member) members && not (list_all (λ x. nat_lt (count_reached table (run x) members) n) runs))
violated_by_numbers run runs table role members wanted n are =
    ap (λ ms. is_violated_by table (map run runs) role ms n) (sym are)
    ∙ ap (λ kept. list_any (λ member. entry table role member) members && not kept) (list_all-map (λ r. nat_lt (count_reached table r members) n) run runs)

pub returns-then-is_violated_by-clause-ok : goal.returns-then-is_violated_by-clause-ok
returns-then-is_violated_by-clause-ok c =
    sym (found_here (λ (set : Cardinality). is_violated_by c.args.table.now (map (λ run. run.items) c.args.runs.now) c.args.role (numbers_of c.args.roles.now (run_of (set_of pair_cmp c.args.members.now) set.0)) set.1)
    c.args.sets.now c.loop-set.set-index c.set-item.result (search rules) c.set-item.is
    (violated_by_numbers (λ run. run.items) c.args.runs.now c.args.table.now c.args.role c.deref.result.now _ c.set-item.result.1 (c.deref.ensures.value ∙ c.in_ok-members.ensures.ok ∙ ap (numbers_of c.args.roles.now) (c.of.ensures ∙ c.with_first.ensures))
    ∙ sym c.is_violated_by.ensures ∙ c.if-is_violated_by.true))
    ∙ c.loop-set.invariant

pub loop-set-preserved : goal.loop-set-preserved
loop-set-preserved c =
    sym (found_later (λ (set : Cardinality). is_violated_by c.args.table.now (map (λ run. run.items) c.args.runs.now) c.args.role (numbers_of c.args.roles.now (run_of (set_of pair_cmp c.args.members.now) set.0)) set.1)
    c.args.sets.now c.loop-set.set-index c.set-item.result (search rules) c.set-item.is
    (violated_by_numbers (λ run. run.items) c.args.runs.now c.args.table.now c.args.role c.deref.result.now _ c.set-item.result.1 (c.deref.ensures.value ∙ c.in_ok-members.ensures.ok ∙ ap (numbers_of c.args.roles.now) (c.of.ensures ∙ c.with_first.ensures))
    ∙ sym c.is_violated_by.ensures ∙ c.if-is_violated_by.false))
    ∙ c.loop-set.invariant

pub returns-clause-ok : goal.returns-clause-ok
returns-clause-ok c =
    sym (ap (first_violated_by c.args.table.now c.args.roles.now (map (λ run. run.items) c.args.runs.now) c.args.role (set_of pair_cmp c.args.members.now)) (drop_of_length-le c.args.sets.now c.loop-set-test.false))
    ∙ c.loop-set.invariant
