use Rattle.std.proofs.Common.{◌≡◌, ◌∙◌, sym, ap}
use Rattle.role_functions.specs.Function.{function_named}
use Rattle.role_http.proofs.RouteLookup.{function_in-other, function_in-unrouted, took}
use Rattle.role_http.proofs.route.function_of.Goals as goal

pub returns-in_default : goal.returns-in_default
returns-in_default c = sym (function_in-other c.args.target.now c.in_default.ensures.cases.0)

pub returns-in_default-at : goal.returns-in_default-at
returns-in_default-at c =
    let (same, text) = c.in-Ok.ensures.cases in
    sym (function_in-unrouted c.args.target.now text (rw (c.requires, same) at c.in_default-at.ensures.missing))

pub returns-in_default-get : goal.returns-in_default-get
returns-in_default-get c =
    let (same, text) = c.in-Ok.ensures.cases in
    let took_part = took c.args.target.now _ c.in-Ok-at.found.params.path.now text (rw (c.requires, same) at c.in-Ok-at.ensures.found) (c.in-Ok-at.ensures.path ∙ same) in
    let no : ⊥ = cc (c.in_default-get.ensures took_part.all_text, took_part.named_part) in
    absurd no

pub returns : goal.returns
returns c =
    let (same, text) = c.in-Ok.ensures.cases in
    let took_part = took c.args.target.now _ c.in-Ok-at.found.params.path.now text (rw (c.requires, same) at c.in-Ok-at.ensures.found) (c.in-Ok-at.ensures.path ∙ same) in
    let is_part : c.in-Some.name.now ≡ took_part.part = cc (c.in-Some.ensures took_part.all_text, took_part.named_part) in
    c.from_name.ensures ∙ ap function_named is_part ∙ sym took_part.function
