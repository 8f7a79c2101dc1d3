use Rattle.std.proofs.Common.{inl, inr, refl, sym, ◌∙◌}
use Rattle.std.proofs.lemmas.Result.{err_from_is_err_and}
use Rattle.rbac_sets.specs.Sets.{name_cmp}
use Rattle.rbac_sets.specs.SortedSet.{set_of}
use Rattle.rbac_c.proofs.OwnedNames.{all_owned, known_owned, none_owned, not_all_names, one_owned}
use Rattle.rbac_c.proofs.conflicts.owned_set.Goals as goal
use Rattle.rbac_c.proofs.conflicts.owned_set.Goals.{then-not-contains+in_ok-reserve, else-not-contains}

pub loop-length-init : goal.loop-length-init
loop-length-init c = none_owned c.args.text.now c.args.lengths.now (set_of name_cmp c.new-set.result) c.new-set.ensures

pub returns-in_err-name-clause-err : goal.returns-in_err-name-clause-err
returns-in_err-name-clause-err c =
    let p = err_from_is_err_and c.from_residual.result c.from_residual.ensures.1 in
    rw (p.1, p.2) (elim c.in_err-name.ensures.err [
      | inl memory ↦ inl memory
      | inr bad ↦ inr (
        bad.0,
        not_all_names c.args.text.now c.args.lengths.now c.loop-length.length-index 0 c.loop-length.rest.now (set_of name_cmp c.loop-length.set) c.loop-length.invariant c.loop-length-test.true
            c.min.result c.split_at.result.0.now c.split_at.result.1.now c.min.ensures c.split_at.ensures.front c.split_at.ensures.back bad.1,
      )
    ])

pub loop-length-preserved : goal.loop-length-preserved
loop-length-preserved c =
    elim c.if-not-contains.branch [
      | then-not-contains+in_ok-reserve w ↦
          rw w.set-is (one_owned c.args.text.now c.args.lengths.now c.loop-length.length-index 0 c.loop-length.rest.now (set_of name_cmp c.loop-length.set) c.loop-length.invariant c.loop-length-test.true
          c.min.result c.split_at.result.0.now c.split_at.result.1.now c.min.ensures c.split_at.ensures.front c.split_at.ensures.back _ c.in_ok-name.ensures.ok.1
          (w.insert_reserved.ensures.inserted ∙ rw (w.reserve.ensures.keeps, c.in_ok-name.ensures.ok.0) refl))
      | else-not-contains w ↦
          rw w.set-is (known_owned c.args.text.now c.args.lengths.now c.loop-length.length-index 0 c.loop-length.rest.now (set_of name_cmp c.loop-length.set) c.loop-length.invariant c.loop-length-test.true
          c.min.result c.split_at.result.0.now c.split_at.result.1.now c.min.ensures c.split_at.ensures.front c.split_at.ensures.back _ c.in_ok-name.ensures.ok.1
          (rw (← c.in_ok-name.ensures.ok.0) (sym c.contains.ensures ∙ w.if-not-contains.false)) refl)
    ]

pub returns-clause-ok : goal.returns-clause-ok
returns-clause-ok c = all_owned c.args.text.now c.args.lengths.now c.loop-length.length-index c.loop-length.rest.now (set_of name_cmp c.loop-length.set) c.loop-length.invariant c.loop-length-test.false
