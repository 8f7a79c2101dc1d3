use Rattle.std.proofs.Common.{◌≡◌, drop}
use Rattle.role_json.specs.Answer.{pairs_of, pair_data}
use Rattle.role_json.proofs.AnswerValues.{items_with}
use Rattle.role_json.proofs.answer.pairs_value.Given as goal

abbrev pub invariant-loop-pair : goal.invariant-loop-pair
invariant-loop-pair l = items_with pair_data l.items.items (drop l.pair-index l.pairs) ≡ pairs_of l.pairs
