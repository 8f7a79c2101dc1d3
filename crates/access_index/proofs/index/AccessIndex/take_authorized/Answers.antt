use Rattle.std.proofs.Common.{string_bytes, refl, ◌∙◌, ap}
use Rattle.std.specs.Str.{bytes_eq}
use Rattle.std.specs.Map.{lookup}
use Rattle.std.specs.HashMap.{get_by_text}
use Rattle.access_index.proofs.AuthorizedLaws.{keeps_authorized, none_authorized}
use Rattle.access_index.proofs.index.AccessIndex.take_authorized.Goals as goal

pub returns-then-some_is_of_closure-clause-keeps : goal.returns-then-some_is_of_closure-clause-keeps
returns-then-some_is_of_closure-clause-keeps c rows keeps =
    let old = c.args.self.now in
    let new = record old { authorized = c.replace.new.dest } in
    keeps_authorized old new rows refl
    (none_authorized new old (λ user. ap (λ map. get_by_text map user) c.replace.ensures.after ∙ ap (lookup (λ k. bytes_eq user (string_bytes k))) c.with_hasher-none.ensures.empty)) keeps
