use Rattle.std.proofs.Common.{◌≡◌, drop}
use Rattle.role_json.specs.Answer.{records_of, record_data}
use Rattle.role_json.proofs.AnswerValues.{items_with}
use Rattle.role_json.proofs.answer.records_value.Given as goal

abbrev pub invariant-loop-pair : goal.invariant-loop-pair
invariant-loop-pair l = items_with record_data l.items.items (drop l.pair-index l.records) ≡ records_of l.records
