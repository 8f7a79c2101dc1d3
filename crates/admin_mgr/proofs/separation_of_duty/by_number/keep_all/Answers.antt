use Rattle.std.proofs.Common.{◌≡◌, rules, List, ℕ, map, nat_lt, sym, ◌∙◌, ap}
use Rattle.std.specs.List.{list_all}
use Rattle.std.proofs.Math.ListN.{drop_of_length-le}
use Rattle.std.proofs.lemmas.List.Folds.{list_all-map}
use Rattle.rbac_sets.specs.Sets.{Cardinality, pair_cmp}
use Rattle.rbac_sets.specs.SortedSet.{set_of}
use Rattle.order_matrix.specs.Table.{Table, numbers_of}
use Rattle.admin_mgr.specs.private.HolderRoles.{run_of}
use Rattle.admin_mgr.specs.private.NumberedSeparation.{count_reached, keep_all, keep_below}
use Rattle.admin_mgr.proofs.PlanRows.ListLaws.{all_here, all_later}
use Rattle.admin_mgr.proofs.separation_of_duty.by_number.keep_all.Goals as goal

-- whether a set is not violated, by the numbers of its members
kept_by : {X : Type 0} (run : X → List ℕ) (runs : List X) (table : Table) (members wanted : List ℕ) (n : ℕ) → members ≡ wanted
    → keep_below table (map run runs) wanted n ≡ list_all (λ x. nat_lt (count_reached table (run x) members) n) runs
kept_by run runs table members wanted n are = ap (λ ms. keep_below table (map run runs) ms n) (sym are) ∙ list_all-map (λ r. nat_lt (count_reached table r members) n) run runs

pub returns-then-not-keep_below-clause-ok : goal.returns-then-not-keep_below-clause-ok
returns-then-not-keep_below-clause-ok c =
    sym (all_here (λ (set : Cardinality). keep_below c.args.table.now (map (λ run. run.items) c.args.runs.now) (numbers_of c.args.roles.now (run_of (set_of pair_cmp c.args.members.now) set.0)) set.1)
    c.args.sets.now c.loop-set.set-index c.set-item.result (search rules) c.set-item.is
    (kept_by (λ run. run.items) c.args.runs.now c.args.table.now c.deref.result.now _ c.set-item.result.1 (c.deref.ensures.value ∙ c.in_ok-members.ensures.ok ∙ ap (numbers_of c.args.roles.now) (c.of.ensures ∙ c.with_first.ensures))
    ∙ sym c.keep_below.ensures ∙ c.if-not-keep_below.true))
    ∙ c.loop-set.invariant

pub loop-set-preserved : goal.loop-set-preserved
loop-set-preserved c =
    sym (all_later (λ (set : Cardinality). keep_below c.args.table.now (map (λ run. run.items) c.args.runs.now) (numbers_of c.args.roles.now (run_of (set_of pair_cmp c.args.members.now) set.0)) set.1)
    c.args.sets.now c.loop-set.set-index c.set-item.result (search rules) c.set-item.is
    (kept_by (λ run. run.items) c.args.runs.now c.args.table.now c.deref.result.now _ c.set-item.result.1 (c.deref.ensures.value ∙ c.in_ok-members.ensures.ok ∙ ap (numbers_of c.args.roles.now) (c.of.ensures ∙ c.with_first.ensures))
    ∙ sym c.keep_below.ensures ∙ c.if-not-keep_below.false))
    ∙ c.loop-set.invariant

pub returns-clause-ok : goal.returns-clause-ok
returns-clause-ok c =
    sym (ap (keep_all c.args.table.now c.args.roles.now (map (λ run. run.items) c.args.runs.now) (set_of pair_cmp c.args.members.now)) (drop_of_length-le c.args.sets.now c.loop-set-test.false))
    ∙ c.loop-set.invariant
