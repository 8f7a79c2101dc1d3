use Rattle.std.proofs.Common.{◌≡◌, ◌<◌, ◌+◌, ◌-◌, ◌^◌, ap, ◌∙◌, arith, w64}
use Rattle.std.specs.Int.{bit_at}
use Rattle.std.proofs.lemmas.Nat.Bits.{bit_at_ones, bit_at-trailing_ones}
use Rattle.bit_rows.proofs.word.first_absent.Goals as goal

pub returns-then-word-eq18446744073709551615-clause-none : goal.returns-then-word-eq18446744073709551615-clause-none
returns-then-word-eq18446744073709551615-clause-none c i low =
    let all : c.args.word ≡ 2 ^ 64 - 1 = omega arith in
    ap (λ w. bit_at w i) all ∙ bit_at_ones 64 i low

pub returns-clause-some : goal.returns-clause-some
returns-clause-some c =
    let some : c.args.word + 1 < 2 ^ 64 = omega arith in
    let found = bit_at-trailing_ones w64 c.args.word some in
    rw c.trailing_ones.ensures (found.0, found.1)
