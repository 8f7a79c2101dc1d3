-- The value that is written as the answer to a request.
use Rattle.serde_json.specs.Data.{Data}
use Rattle.admin_mgr.specs.PlanEffect.{tally_of_report}
use Rattle.review_mgr.specs.Answering.{answer_content}
use Rattle.role_json.specs.declared.answer.Verdict.{Verdict}
use Rattle.role_json.specs.declared.answer.Verdict.TheVariants as verdict
use Rattle.role_json.specs.Answer.{done_data, refusal_data, report_data, value_data, with_value}

-- the answer to a request
unfoldable pub data_of : Verdict → Data
data_of verdict.Done = done_data
data_of (verdict.Imported report) = with_value (report_data (tally_of_report report))
data_of (verdict.Answered answer) = with_value (value_data (answer_content answer))
data_of (verdict.Refused refusal) = refusal_data refusal
