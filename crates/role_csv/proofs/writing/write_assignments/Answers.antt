use Rattle.std.proofs.Common.{◌≡◌, ◌≤◌, ◌∙◌, [], ap, arith, length, List, refl, sym}
use Rattle.std.proofs.lemmas.Result.{err_from_is_err_and}
use Rattle.csv.proofs.OnLiterals.{csv_on_literals}
use Rattle.rbac_sets.proofs.Known.{Appends-none}
use Rattle.rbac_sets.specs.Sets.{Pair, members}
use Rattle.role_csv.specs.Export.{export, exported, line_of}
use Rattle.role_csv.proofs.writing.write_assignments.Goals as goal

-- an export has at least one byte
length-export : (pairs : List Pair) → 1 ≤ length (export pairs)
unfolding export line_of csv_on_literals
length-export pairs = omega arith

pub returns-in_err-text-clause-part : goal.returns-in_err-text-clause-part
returns-in_err-text-clause-part g c =
    let p = err_from_is_err_and c.from_residual.result c.from_residual.ensures.1 in
    rw p.1 ([], exported c.args.state.now.facts, refl, length-export (members c.args.state.now.facts.assignments), Appends-none (g.W.Sink.written c.args.sink.now))

pub returns-clause-part : goal.returns-clause-part
returns-clause-part g c =
    let (part, rest, is, some, wrote) = c.in-Err.ensures.part in
    let whole : c.deref.result.now ≡ exported c.args.state.now.facts =
    c.deref.ensures.value ∙ c.in_ok-text.ensures.text ∙ ap export (c.as_run.ensures ∙ ap members c.assignments.ensures) in
    (part, rest, sym whole ∙ is, some, wrote)
