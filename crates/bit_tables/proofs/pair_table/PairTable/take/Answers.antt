use Rattle.std.proofs.Common.{◌≡◌, ◌&&◌, ◌∙◌, ap}
use Rattle.bit_tables.specs.Tables.{are_names, joined}
use Rattle.bit_tables.proofs.ByName.{joined_same}
use Rattle.bit_tables.proofs.pair_table.PairTable.take.Goals as goal

pub returns-clause-others : goal.returns-clause-others
returns-clause-others c a b n differ =
    let key : c.as_str.result.now ≡ joined c.args.first.now c.args.second.now = c.as_str.ensures.value ∙ c.joined-key.ensures in
    ap (λ x. are_names a b && x) (c.in_ok-take.ensures.others (joined a b) n (λ same. let both = joined_same a b c.args.first.now c.args.second.now (same ∙ key) in differ both.0 both.1))
