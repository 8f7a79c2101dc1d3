use Rattle.std.proofs.Common.{◌≡◌, inl, inr, ◌<◌, ◌++◌, ◌∙◌, ◌+◌, List, ℕ, Bor, length, length-append, drop, get_or, ap, refl, sym, arith, add-one, append_assoc}
use Rattle.std.proofs.Math.Seq.{drop-cons}
use Rattle.std.proofs.lemmas.Result.{err_from_is_err_and}
use Rattle.rbac_sets.proofs.Counting.{risen_since}
use Rattle.rbac_sets.proofs.Known.{Appends-more}
use Rattle.role_http.specs.private.PieceReferences.{all_of}
use Rattle.role_http.proofs.reply.write_pieces.Goals as goal

next : (pieces : List (Bor (List ℕ))) (i : ℕ) (d : Bor (List ℕ)) → i < length pieces → all_of (drop i pieces) ≡ (get_or pieces i d).now ++ all_of (drop (i + 1) pieces)
next pieces i d h = rw (add-one i, drop-cons pieces i d h) refl

pub returns-in_err-write_all-clause-part : goal.returns-in_err-write_all-clause-part
returns-in_err-write_all-clause-part g c =
    let (done, appended, all) = c.loop-piece.invariant.written in
    let (part, rest, is, some, more) = c.in_err-write_all.ensures.part in
    let tail : List ℕ = all_of (drop (c.loop-piece.piece-index + 1) c.args.pieces.now) in
    let left : all_of (drop c.loop-piece.piece-index c.args.pieces.now) ≡ part ++ (rest ++ tail) =
    next c.args.pieces.now c.loop-piece.piece-index _ c.loop-piece-test.true ∙ ap (λ z. z ++ tail) is ∙ append_assoc part rest tail in
    let p = err_from_is_err_and c.from_residual.result c.from_residual.ensures.1 in
    rw p.1 (
      done ++ part,
      rest ++ tail,
      all ∙ ap (λ z. done ++ z) left ∙ sym (append_assoc done part (rest ++ tail)),
      rw (length-append rest tail) (omega (arith, some)),
      Appends-more _ _ _ done part appended more,
    )

pub loop-piece-preserved : goal.loop-piece-preserved
loop-piece-preserved g c =
    let before = c.loop-piece.invariant in
    let (done, appended, all) = before.written in
    let wrote = c.in_ok-write_all.ensures in
    record {
      written = (
        _,
        Appends-more _ _ _ done _ appended wrote.ok,
        all ∙ ap (λ z. done ++ z) (next c.args.pieces.now c.loop-piece.piece-index _ c.loop-piece-test.true) ∙ sym (append_assoc done _ _),
      );
      failed = omega (arith, before.failed, wrote.failures);
      idle = omega (arith, before.idle, wrote.idle);
    }

pub returns-in_err-write_all-clause-cause : goal.returns-in_err-write_all-clause-cause
returns-in_err-write_all-clause-cause g c =
    let before = c.loop-piece.invariant in
    let p = err_from_is_err_and c.from_residual.result c.from_residual.ensures.1 in
    rw p.1 (elim c.in_err-write_all.ensures.cause [
      | inl fault ↦ inl (risen_since _ _ _ before.failed fault)
      | inr none ↦ inr (risen_since _ _ _ before.idle none)
    ])
