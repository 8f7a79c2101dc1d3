use Rattle.std.proofs.Common.{None, string_bytes, refl, ap}
use Rattle.std.specs.Str.{bytes_eq}
use Rattle.std.specs.Map.{lookup}
use Rattle.std.specs.HashMap.{get_by_text}
use Rattle.std.proofs.lemmas.Map.Text.{hash_map_updates_text}
use Rattle.bit_tables.proofs.ByName.{no_entries, updated_here}
use Rattle.access_index.specs.Index.{authorized_row}
use Rattle.access_index.proofs.AuthorizedLaws.{authorized_updated, keeps_authorized}
use Rattle.access_index.proofs.index.AccessIndex.forget_authorized.Goals as goal

pub returns-then-not-is_empty-clause-gone : goal.returns-then-not-is_empty-clause-gone
returns-then-not-is_empty-clause-gone c =
    updated_here (authorized_row c.args.self.now) (get_by_text c.remove.new.self) c.args.user.now None
    (hash_map_updates_text c.args.user.now c.args.self.now.authorized c.remove.new.self None c.remove.ensures.updates)

pub returns-then-not-is_empty-clause-keeps : goal.returns-then-not-is_empty-clause-keeps
returns-then-not-is_empty-clause-keeps c rows keeps =
    let old = c.args.self.now in
    keeps_authorized old (record old { authorized = c.remove.new.self }) rows refl
    (authorized_updated old (get_by_text c.remove.new.self) c.args.user.now None (hash_map_updates_text c.args.user.now old.authorized c.remove.new.self None c.remove.ensures.updates) tt keeps.authorized) keeps

pub returns-else-not-is_empty-clause-gone : goal.returns-else-not-is_empty-clause-gone
returns-else-not-is_empty-clause-gone c = ap (lookup (λ k. bytes_eq c.args.user.now (string_bytes k))) (no_entries _ (c.if-not-is_empty.ensures.0 refl))
