use Rattle.std.proofs.Common.{ap, inl, inr, refl, sym, ◌∙◌}
use Rattle.role_json.specs.RequestContent.{requested}
use Rattle.role_wire.proofs.serving.reply_without_text.Goals as goal

pub returns-in-Change-clause-left : goal.returns-in-Change-clause-left
returns-in-Change-clause-left c = (
  refl,
  elim c.requires [
    | inl (query, is) ↦ absurd (let no = sym is ∙ ap requested c.in-Change.is in cc)
    | inr imports ↦ imports
  ],
)
