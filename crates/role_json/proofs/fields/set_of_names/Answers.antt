use Rattle.std.proofs.Common.{refl, sym, ◌∙◌, inl, inr}
use Rattle.std.proofs.lemmas.Result.{err_from_is_err_and}
use Rattle.rbac_sets.specs.Sets.{name_cmp}
use Rattle.rbac_sets.specs.SortedSet.{set_of}
use Rattle.role_json.proofs.NameSets.{HasFirst-none, HasFirst-put, HasFirst-known, HasFirst-bad}
use Rattle.role_json.proofs.fields.set_of_names.Goals as goal
use Rattle.role_json.proofs.fields.set_of_names.Goals.{then-not-contains+in_ok-reserve, else-not-contains}

pub loop-text-init : goal.loop-text-init
loop-text-init c = HasFirst-none c.args.texts.now (set_of name_cmp c.new-set.result) c.new-set.ensures

pub returns-in_err-name-clause-err : goal.returns-in_err-name-clause-err
returns-in_err-name-clause-err c =
    let p = err_from_is_err_and c.from_residual.result c.from_residual.ensures.1 in
    rw (p.1, p.2) (elim c.in_err-name.ensures.err [
      | inl memory ↦ inl memory
      | inr bad ↦ inr (HasFirst-bad c.args.texts.now c.loop-text.text-index _ _ c.loop-text-test.true bad)
    ])

pub loop-text-preserved : goal.loop-text-preserved
loop-text-preserved c =
    elim c.if-not-contains.branch [
      | then-not-contains+in_ok-reserve w ↦
          rw w.set-is (HasFirst-put c.args.texts.now c.loop-text.text-index _ (set_of name_cmp c.loop-text.set) _ _ c.loop-text-test.true c.in_ok-name.ensures.ok c.loop-text.invariant
          (w.insert_reserved.ensures.inserted ∙ rw w.reserve.ensures.keeps refl))
      | else-not-contains w ↦
          rw w.set-is (HasFirst-known c.args.texts.now c.loop-text.text-index _ (set_of name_cmp c.loop-text.set) _ _ c.loop-text-test.true c.in_ok-name.ensures.ok c.loop-text.invariant
          (sym c.contains.ensures ∙ w.if-not-contains.false) refl)
    ]
