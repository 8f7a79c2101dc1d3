use Rattle.std.proofs.Common.{◌∙◌, [], ◌∷◌, arith, sym, inl, inr}
use Rattle.std.proofs.lemmas.Result.{err_from_is_err_and}
use Rattle.csv.specs.Records.{fields_of}
use Rattle.role_csv.proofs.Listing.{assignments-long, no_header, bad_header, good_header, listed-all, listed-refused, listed-too_many, listed-more}
use Rattle.role_csv.proofs.reading.read_assignments.Goals as goal
use Rattle.role_csv.proofs.reading.read_assignments.Goals.{then-not-branch-via-then-not-branch, then-not-branch-via-else-not-branch+then-not-is_header}

pub returns-then-text-limit-clause-err : goal.returns-then-text-limit-clause-err
returns-then-text-limit-clause-err c = inr (assignments-long c.args.text.now (omega (arith, c.limit.ensures, c.if-text-limit.true)))

pub returns-then-not-branch-clause-err : goal.returns-then-not-branch-clause-err
returns-then-not-branch-clause-err c =
    inr (elim c.then-not-branch.branch [
      | then-not-branch-via-then-not-branch w ↦
          no_header c.args.text.now (omega (arith, c.limit.ensures, c.if-text-limit.false)) (c.in_ok-next_record.ensures.end w.if-not-branch.true c.args.text.now [] c.reader_of-reader.ensures)
      | then-not-branch-via-else-not-branch+then-not-is_header w ↦
          bad_header c.args.text.now (fields_of c.next_record.new.row) c.next_record.new.reader (omega (arith, c.limit.ensures, c.if-text-limit.false))
          (c.in_ok-next_record.ensures.more w.if-not-branch.false c.args.text.now [] c.reader_of-reader.ensures) (sym w.is_header.ensures ∙ w.if-not-is_header.true)
    ])

pub loop-number-init : goal.loop-number-init
loop-number-init c =
    good_header c.args.text.now (fields_of c.next_record.new.row) c.next_record.new.reader c.new-pairs.result.items (omega (arith, c.limit.ensures, c.if-text-limit.false))
    (c.in_ok-next_record.ensures.more c.if-not-branch.false c.args.text.now [] c.reader_of-reader.ensures) (sym c.is_header.ensures ∙ c.if-not-is_header.false) c.new-pairs.ensures.items

pub returns-then-not-branch-2-clause-ok : goal.returns-then-not-branch-2-clause-ok
returns-then-not-branch-2-clause-ok c =
    let listed = c.loop-number.invariant in
    listed-all c.args.text.now c.loop-number.number c.loop-number.pairs.items c.loop-number.reader listed
    (c.in_ok-next_record-2.ensures.end c.if-not-branch-2.true c.args.text.now (listed.header ∷ listed.body) listed.read)

pub returns-in_err-pair-clause-err : goal.returns-in_err-pair-clause-err
returns-in_err-pair-clause-err c =
    let p = err_from_is_err_and c.from_residual-in_err-pair.result c.from_residual-in_err-pair.ensures.1 in
    let listed = c.loop-number.invariant in
    rw (p.1, p.2) (elim c.in_err-pair.ensures.err [
      | inl memory ↦ inl memory
      | inr bad ↦ inr (listed-refused c.args.text.now c.loop-number.number c.loop-number.pairs.items c.loop-number.reader listed
          (fields_of c.next_record-in-loop-number.new.row) c.next_record-in-loop-number.new.reader _
          (c.in_ok-next_record-2.ensures.more c.if-not-branch-2.false c.args.text.now (listed.header ∷ listed.body) listed.read) (omega (arith, c.loop-number-test.true)) bad)
    ])

pub loop-number-preserved : goal.loop-number-preserved
loop-number-preserved c =
    let listed = c.loop-number.invariant in
    listed-more c.args.text.now c.loop-number.number c.loop-number.pairs.items c.loop-number.reader listed
    (fields_of c.next_record-in-loop-number.new.row) c.next_record-in-loop-number.new.reader _ _
    (c.in_ok-next_record-2.ensures.more c.if-not-branch-2.false c.args.text.now (listed.header ∷ listed.body) listed.read)
    (omega (arith, c.loop-number-test.true)) c.in_ok-pair.ensures.ok c.in_ok-push.ensures.items

pub returns-then-branch-clause-err : goal.returns-then-branch-clause-err
returns-then-branch-clause-err c =
    let listed = c.loop-number.invariant in
    inr (listed-too_many c.args.text.now c.loop-number.number c.loop-number.pairs.items c.loop-number.reader listed
    (fields_of c.next_record-2.new.row) c.next_record-2.new.reader
    (c.in_ok-next_record-3.ensures.more c.if-branch.true c.args.text.now (listed.header ∷ listed.body) listed.read) (omega (arith, c.loop-number-test.false)))

pub returns-clause-ok : goal.returns-clause-ok
returns-clause-ok c =
    let listed = c.loop-number.invariant in
    listed-all c.args.text.now c.loop-number.number c.loop-number.pairs.items c.loop-number.reader listed
    (c.in_ok-next_record-3.ensures.end c.if-branch.false c.args.text.now (listed.header ∷ listed.body) listed.read)
