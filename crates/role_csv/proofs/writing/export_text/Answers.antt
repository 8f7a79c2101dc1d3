use Rattle.std.proofs.Common.{◌≡◌, ◌++◌, ◌∷◌, ◌∙◌, ap, refl, sym, append_assoc, List, ℕ}
use Rattle.std.specs.Prelude.{codes}
use Rattle.std.proofs.lemmas.List.{append-nil}
use Rattle.rbac_sets.specs.Sets.{Bytes, Pair}
use Rattle.chunked_sets.specs.Entries.{entries_left}
use Rattle.role_csv.specs.Export.{export, line_of, lines_of}
use Rattle.role_csv.proofs.writing.export_text.Goals as goal

-- the header is written, and all pairs are left
header_first : (written : Bytes) (left pairs : List Pair) → written ≡ line_of (codes "user", codes "role") → left ≡ pairs → written ++ lines_of left ≡ export pairs
unfolding export
header_first written left pairs is all = rw (is, all) refl

-- the line of the first pair that is left is written
line_more : (t before after line all : Bytes) (left rest : List Pair) (q : Pair)
    → before ≡ t → after ≡ before ++ line → line ≡ line_of q → left ≡ q ∷ rest → t ++ lines_of left ≡ all → after ++ lines_of rest ≡ all
unfolding lines_of
line_more t before after line all left rest q same more is step whole =
    let written : after ≡ t ++ line_of q = rw (more, same, is) refl in
    ap (λ z. z ++ lines_of rest) written ∙ append_assoc t (line_of q) (lines_of rest) ∙ ap (λ l. t ++ lines_of l) (sym step) ∙ whole

pub loop-pair-init : goal.loop-pair-init
loop-pair-init c =
    let from = c.from_writer-writer.ensures in
    let told = c.in_ok-write_pair.ensures in
    record {
      ended = told.ended;
      clean = told.clean;
      plain = told.plain;
      text = (
        _,
        refl,
        header_first _ _ c.args.pairs.now (told.text ∙ rw (from.wtr, c.new-2.ensures.items, from.empty) refl)
            (ap entries_left c.into_iter-pair-iterator.ensures.into_iter_gives ∙ c.iter-pair-items.ensures),
      );
    }

pub loop-pair-preserved : goal.loop-pair-preserved
loop-pair-preserved c =
    let (t, at, all) = c.loop-pair.invariant.text in
    let told = c.in_ok-write_pair-2.ensures in
    let before : List ℕ = c.loop-pair.writer.wtr.inner.items ++ c.loop-pair.writer.wtr.buf in
    let same : before ≡ t = cc at in
    let q = c.in-Some.pair.now in
    let is : line_of (c.as_str.result.now, c.as_str-in-loop-pair.result.now) ≡ line_of q = rw (c.as_str.ensures.text, c.as_str-in-loop-pair.ensures.text) refl in
    record {
      ended = told.ended;
      clean = told.clean;
      plain = told.plain;
      text = (_, refl, line_more t before _ _ _ _ _ q same told.text is c.in-Some.ensures.steps all);
    }

pub returns-in-Ok-clause-text : goal.returns-in-Ok-clause-text
unfolding lines_of
returns-in-Ok-clause-text c =
    let (t, at, all) = c.loop-pair.invariant.text in
    let before : List ℕ = c.loop-pair.writer.wtr.inner.items ++ c.loop-pair.writer.wtr.buf in
    let same : before ≡ t = cc at in
    c.in-Ok.ensures.ok ∙ same ∙ rw (c.in-None.ensures.steps.0, append-nil t) at all
