use Rattle.std.proofs.Common.{◌≡◌, true, length, nat_le, sym, ◌∙◌}
use Rattle.std.proofs.lemmas.Bool.{leb-true}
use Rattle.std.specs.Cmp.{first_so, second_so}
use Rattle.rbac_sets.specs.Name.{has_name_length, is_name}
use Rattle.rbac_sets.proofs.name.Name.new.Goals as goal

pub new-requires : goal.new-requires
new-requires c =
    let text = c.args.text.now in
    let named : is_name text ≡ true = sym c.is_name.ensures ∙ c.if-not-is_name.false in
    leb-true (length text) 64 (second_so (nat_le 1 (length text)) (nat_le (length text) 64) (first_so (has_name_length text) _ named))
