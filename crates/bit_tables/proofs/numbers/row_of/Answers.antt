use Rattle.std.proofs.Common.{slice_index, take, inl, inr, sym, ◌∙◌, ap, arith}
use Rattle.std.proofs.lemmas.Bool.{cases_eq}
use Rattle.std.proofs.lemmas.List.Folds.{list_any_more}
use Rattle.bit_rows.specs.Rows.{has}
use Rattle.bit_tables.specs.Tables.{is_at, is_one_of}
use Rattle.bit_tables.proofs.PlaceLaws.{at_other, at_self, at_wide, or_false, or_true}
use Rattle.bit_tables.proofs.numbers.row_of.Goals.{then-number-lt-WIDTH+in_ok-put, else-number-lt-WIDTH}
use Rattle.bit_tables.proofs.numbers.row_of.Goals as goal

pub loop-place-preserved : goal.loop-place-preserved
loop-place-preserved c n =
    let places = c.args.places.now in
    let place = slice_index places c.loop-place.place-index in
    let before = is_one_of (take c.loop-place.place-index places) n in
    let more = list_any_more (λ p. is_at p n) places c.loop-place.place-index 0 c.loop-place-test.true in
    elim c.if-number-lt-WIDTH.branch [
      | then-number-lt-WIDTH+in_ok-put w ↦ ap (λ row. has row n) w.row-is ∙ elim (cases_eq n place) [
        | inl same ↦
            let there = ap (has w.put.new.self) same ∙ w.in_ok-put.ensures.there in
            there ∙ sym (more ∙ or_true before (is_at place n) (ap (is_at place) same ∙ at_self place w.if-number-lt-WIDTH.true))
        | inr differ ↦ w.put.ensures.others n differ ∙ c.loop-place.invariant n ∙ sym (more ∙ or_false before (is_at place n) (at_other place n differ))
      ]
      | else-number-lt-WIDTH w ↦
          ap (λ row. has row n) w.row-is ∙ c.loop-place.invariant n
          ∙ sym (more ∙ or_false before (is_at place n) (at_wide place n (omega (arith, w.if-number-lt-WIDTH.false))))
    ]
