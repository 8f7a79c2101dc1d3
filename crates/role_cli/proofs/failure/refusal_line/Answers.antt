use Rattle.std.proofs.Common.{◌≡◌, ◌++◌, ◌∷◌, [], ap, ◌∙◌}
use Rattle.role_json.specs.Answer.{refusal_text, text_of}
use Rattle.role_cli.proofs.failure.refusal_line.Goals as goal

-- The first part of the line, the text of the refusal, and a line feed.
pub returns : goal.returns
unfolding text_of
returns c =
    let text : c.as_str.result.now ≡ refusal_text c.args.refusal = c.as_str.ensures.value ∙ c.in_ok-answer_text.ensures.ok in
    let first = c.in_ok-push_str.ensures.bytes ∙ (λ i. c.in_ok-line.ensures.ok i ++ text i) in
    c.in_ok-push_str-2.ensures.bytes ∙ ap (λ bytes. bytes ++ (10 ∷ [])) first
