use Rattle.std.proofs.Common.{◌≡◌, List, [], ◌∷◌, ◌++◌, length, rules, inl, inr, refl, sym, ap, subst, ◌∙◌}
use Rattle.std.proofs.lemmas.List.{append-nil}
use Rattle.std.specs.List.{list_all}
use Rattle.std.proofs.lemmas.Bool.{and_from}
use Rattle.std.proofs.lemmas.List.Folds.{list_all-append}
use Rattle.std.proofs.lemmas.Result.{err_from_is_err_and}
use Rattle.rbac_sets.specs.Named.{is_named}
use Rattle.rbac_sets.specs.declared.row.Row.{Row}
use Rattle.rbac_sets.proofs.SetLaws.{no_items}
use Rattle.admin_mgr.specs.StoredSets.{gathered}
use Rattle.admin_mgr.specs.RowChecks.{AreReadable}
use Rattle.admin_mgr.proofs.StoredRows.RowSteps.{SoFar, none_so_far, one_so_far, stopped}
use Rattle.admin_mgr.proofs.relations.gathered.StoredSets.of_rows.Goals as goal

pub loop-row-init : goal.loop-row-init
loop-row-init c =
    let all : c.into_iter-row-iterator.result.rest.items ≡ c.args.rows.items = search rules in
    (subst (λ left. SoFar c.args.version c.args.rows.items [] left c.new-made.result) (sym all) (none_so_far c.args.version c.args.rows.items c.new-made.result c.new-made.ensures), refl)

pub loop-row-preserved : goal.loop-row-preserved
loop-row-preserved c = (
  one_so_far c.args.version c.args.rows.items c.loop-row.yielded c.next.new.self.rest.items c.loop-row.row-iterator.rest.items c.in-Some.row c.loop-row.made
      c.loop-row.invariant.0 c.in-Some.ensures.steps.0 c.add.new.self c.in_ok-add.ensures.fits c.in_ok-add.ensures.put,
  list_all-append is_named c.loop-row.yielded (c.in-Some.row ∷ []) ∙ and_from _ _ c.loop-row.invariant.1 (and_from _ _ c.recall_names.ensures refl),
)

pub returns-in_err-add-clause-err : goal.returns-in_err-add-clause-err
returns-in_err-add-clause-err c =
    let p = err_from_is_err_and c.from_residual.result c.from_residual.ensures.1 in
    let unfit = stopped c.args.version c.args.rows.items c.loop-row.yielded c.next.new.self.rest.items c.loop-row.row-iterator.rest.items c.in-Some.row c.loop-row.made
    c.loop-row.invariant.0 c.in-Some.ensures.steps.0 in
    rw (p.1, p.2) (elim c.in_err-add.ensures.err [
      | inl memory ↦ inl memory
      | inr failed ↦ inr (failed.0, unfit failed.1)
    ])

-- at the end all rows were gathered
all_taken : (rows done rest : List Row) → rows ≡ done ++ rest → length rest ≡ 0 → rows ≡ done
all_taken rows done rest is none = is ∙ ap (λ xs. done ++ xs) (no_items rest none) ∙ append-nil done

pub returns-clause-ok : goal.returns-clause-ok
returns-clause-ok c =
    let counted : c.loop-row.row-iterator.rest.len ≡ length c.loop-row.row-iterator.rest.items = search rules in
    let so_far = c.loop-row.invariant.0 in
    let all = all_taken c.args.rows.items c.loop-row.yielded c.loop-row.row-iterator.rest.items so_far.0 (sym counted ∙ c.in-None.ensures.steps.0) in
    (so_far.1 ∙ ap (gathered c.args.version) (sym all), subst (AreReadable c.args.version) (sym all) so_far.2)

pub returns-clause-named : goal.returns-clause-named
returns-clause-named c =
    let counted : c.loop-row.row-iterator.rest.len ≡ length c.loop-row.row-iterator.rest.items = search rules in
    let all = all_taken c.args.rows.items c.loop-row.yielded c.loop-row.row-iterator.rest.items c.loop-row.invariant.0.0 (sym counted ∙ c.in-None.ensures.steps.0) in
    ap (list_all is_named) all ∙ c.loop-row.invariant.1
