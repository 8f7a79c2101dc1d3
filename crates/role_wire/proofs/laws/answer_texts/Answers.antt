use Rattle.std.proofs.Common.{refl}
use Rattle.std.specs.Fmt.{digits}
use Rattle.json.specs.Print.{escape_byte}
use Rattle.role_json.specs.Answer.{done_text, import_text, report_data, record_data, records_of, refusal_text, refusal_data}
use Rattle.role_wire.proofs.QuotedNames.{names_are_quoted}
use Rattle.role_wire.proofs.laws.answer_texts.Goals as goal

pub returns-clause-done : goal.returns-clause-done
unfolding done_text escape_byte
returns-clause-done c = refl

pub returns-clause-import : goal.returns-clause-import
unfolding import_text report_data records_of record_data escape_byte digits
returns-clause-import c = refl

pub returns-clause-refusal : goal.returns-clause-refusal
unfolding refusal_text refusal_data escape_byte digits
returns-clause-refusal c = refl

pub returns-clause-names : goal.returns-clause-names
returns-clause-names c = names_are_quoted
