use Rattle.std.proofs.Common.{◌∙◌, arith}
use Rattle.rbac_c.proofs.CopiedRows.{same_behind}
use Rattle.rbac_c.proofs.copying.put_row.Goals as goal

pub returns-clause-behind : goal.returns-clause-behind
returns-clause-behind c =
    c.put.ensures.behind ∙ same_behind c.put-third.result c.put.result _ _ (omega (arith, c.put.ensures.end)) c.put-third.ensures.behind
    ∙ same_behind c.put-second.result c.put.result _ _ (omega (arith, c.put.ensures.end, c.put-third.ensures.end)) c.put-second.ensures.behind
