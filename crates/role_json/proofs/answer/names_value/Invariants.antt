use Rattle.std.proofs.Common.{◌≡◌, drop}
use Rattle.serde_json.specs.Data.{string}
use Rattle.role_json.specs.Answer.{texts_of}
use Rattle.role_json.proofs.AnswerValues.{items_with}
use Rattle.role_json.proofs.answer.names_value.Given as goal

abbrev pub invariant-loop-name : goal.invariant-loop-name
invariant-loop-name l = items_with string l.items.items (drop l.name-index l.names) ≡ texts_of l.names
