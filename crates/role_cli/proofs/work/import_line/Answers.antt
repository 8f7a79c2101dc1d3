use Rattle.std.specs.Prelude.{◌≡◌, ◌++◌, ◌∷◌, [], string_bytes}
use Rattle.std.proofs.Common.{subst}
use Rattle.role_json.specs.Answer.{text_of}
use Rattle.role_cli.proofs.work.import_line.Goals as goal

-- The line is the answer text of the report, and a line feed.
pub returns-clause-ok : goal.returns-clause-ok
unfolding text_of
returns-clause-ok c = subst (λ text. string_bytes c.push_str.new.self ≡ text ++ (10 ∷ [])) c.in_ok-line.ensures.ok c.in_ok-push_str.ensures.bytes
