use Rattle.std.proofs.Common.{◌≡◌, ◌+◌, ◌-◌, ◌∙◌, ℕ, length, ap, arith}
use Rattle.std.proofs.lemmas.Slice.{drop-put_mid}
use Rattle.rbac_c.proofs.copying.put.Goals as goal

pub returns-clause-behind : goal.returns-clause-behind
returns-clause-behind c =
    let at : ℕ = c.args.at in
    let size : ℕ = length c.args.text.now in
    let gap : size ≡ at + size - at = omega arith in
    drop-put_mid at (at + size - at) c.args.out.now c.copy_from_slice.new.self (at + size) (omega arith) (omega (arith, c.requires)) (ap length c.copy_from_slice.ensures.after ∙ gap)
