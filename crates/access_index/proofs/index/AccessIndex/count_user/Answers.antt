use Rattle.std.proofs.Common.{Some, string_bytes, refl, sym, ◌∙◌, ap, subst}
use Rattle.std.specs.Prelude.{IfSome}
use Rattle.std.specs.Str.{bytes_eq}
use Rattle.std.specs.Map.{lookup, update}
use Rattle.std.specs.HashMap.{get_by_text}
use Rattle.std.proofs.lemmas.Map.Text.{hash_map_updates_text}
use Rattle.access_index.specs.Index.{IsAuthorized, authorized_row}
use Rattle.access_index.proofs.AuthorizedLaws.{authorized_updated, either_way, keeps_authorized}
use Rattle.access_index.proofs.index.AccessIndex.count_user.Goals as goal

pub returns-in-Ok-clause-keeps : goal.returns-in-Ok-clause-keeps
returns-in-Ok-clause-keeps c rows keeps =
    let old = c.args.self.now in
    let row = Some c.in-Some.row in
    keeps_authorized old (record old { authorized = c.insert.new.self }) rows refl
    (either_way c.insert.result _ _ _
    (λ updates. authorized_updated old (get_by_text c.insert.new.self) c.args.user.now row
    (λ other. hash_map_updates_text (string_bytes c.in-Ok.key) old.authorized c.insert.new.self row updates other ∙ ap (λ bs. update bytes_eq (authorized_row old) bs row other) c.in-Ok.ensures.ok) c.in-Some.ensures keeps.authorized)
    (λ same user. subst (λ entries. IfSome (lookup (λ k. bytes_eq user (string_bytes k)) entries) (IsAuthorized old user)) (sym same) (keeps.authorized user))
    c.insert.ensures.updates c.insert.ensures.err)
    keeps
