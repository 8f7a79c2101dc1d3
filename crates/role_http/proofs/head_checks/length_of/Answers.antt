use Rattle.std.proofs.Common.{◌∙◌, ◌+◌, refl, sym, drop}
use Rattle.std.proofs.lemmas.List.{drop_all}
use Rattle.role_http.proofs.Digits.{digit_at, digit_of, digit_step, length_of-all, length_of-large}
use Rattle.role_http.proofs.head_checks.length_of.Goals as goal

pub overflow_sub-byte : goal.overflow_sub-byte
overflow_sub-byte c = (digit_of _ (digit_at c.args.digits.now c.loop-byte.byte-index 0 c.requires.digits c.loop-byte-test.true)).0

pub returns-then-count-most : goal.returns-then-count-most
returns-then-count-most c =
    sym (length_of-large c.args.most _ c.args.digits.now (drop (c.loop-byte.byte-index + 1) c.args.digits.now)
    (digit_step c.args.digits.now c.loop-byte.byte-index c.loop-byte.count c.from.result c.requires.digits c.loop-byte-test.true c.from.ensures c.loop-byte.invariant.value) c.if-count-most.true)

pub loop-byte-preserved : goal.loop-byte-preserved
loop-byte-preserved c = record {
  value = digit_step c.args.digits.now c.loop-byte.byte-index c.loop-byte.count c.from.result c.requires.digits c.loop-byte-test.true c.from.ensures c.loop-byte.invariant.value;
  small = c.if-count-most.false;
}

pub returns : goal.returns
returns c =
    sym (length_of-all c.args.most c.loop-byte.count c.args.digits.now (c.loop-byte.invariant.value ∙ rw (drop_all c.loop-byte.byte-index c.args.digits.now c.loop-byte-test.false) refl) c.loop-byte.invariant.small)
