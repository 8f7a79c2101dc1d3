use Rattle.std.proofs.Common.{IfSome, sym, ◌∙◌, subst}
use Rattle.access_index.specs.Index.{Indexes}
use Rattle.role_lines.proofs.Results.{on_ok-then}
use Rattle.role_lines.proofs.indexed.follow.Goals as goal

pub returns-else-is_err-clause-indexes : goal.returns-else-is_err-clause-indexes
returns-else-is_err-clause-indexes c S T before turns good =
    on_ok-then c.follow.result _ (sym c.is_err.ensures.value ∙ c.if-is_err.false) c.follow.ensures.ok S T (subst (λ o. IfSome o (λ old. Indexes old S)) c.in-Some.is before) turns good
