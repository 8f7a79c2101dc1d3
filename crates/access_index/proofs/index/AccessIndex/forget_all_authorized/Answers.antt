use Rattle.std.proofs.Common.{string_bytes, refl, ap}
use Rattle.std.specs.Str.{bytes_eq}
use Rattle.std.specs.Map.{lookup}
use Rattle.bit_tables.proofs.ByName.{no_entries}
use Rattle.access_index.proofs.AuthorizedLaws.{keeps_authorized, none_authorized}
use Rattle.access_index.proofs.index.AccessIndex.forget_all_authorized.Goals as goal

pub returns-then-not-is_empty-clause-keeps : goal.returns-then-not-is_empty-clause-keeps
returns-then-not-is_empty-clause-keeps c rows keeps =
    let old = c.args.self.now in
    let new = record old { authorized = c.clear.new.self } in
    keeps_authorized old new rows refl (none_authorized new old (λ user. ap (lookup (λ k. bytes_eq user (string_bytes k))) c.clear.ensures.empty)) keeps

pub returns-else-not-is_empty-clause-none : goal.returns-else-not-is_empty-clause-none
returns-else-not-is_empty-clause-none c user = ap (lookup (λ k. bytes_eq user (string_bytes k))) (no_entries _ (c.if-not-is_empty.ensures.0 refl))
