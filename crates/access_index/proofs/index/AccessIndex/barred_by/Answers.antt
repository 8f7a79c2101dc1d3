use Rattle.std.proofs.Common.{Some, string_bytes, sym, ◌∙◌, ap, subst, arith}
use Rattle.std.specs.Prelude.{IfSome}
use Rattle.std.specs.Str.{bytes_eq}
use Rattle.std.specs.Map.{update}
use Rattle.std.specs.HashMap.{get_by_text}
use Rattle.std.proofs.lemmas.Map.Text.{hash_map_updates_text}
use Rattle.bit_rows.specs.Rows.{has}
use Rattle.access_index.specs.Following.{Follow}
use Rattle.access_index.specs.Index.{is_barred_by, is_used, number_of, rows_of}
use Rattle.access_index.specs.private.Barring.{has_members}
use Rattle.access_index.proofs.IndexLaws.{keeps_counted}
use Rattle.access_index.proofs.LevelLaws.{set_bars, set_counts}
use Rattle.access_index.proofs.index.AccessIndex.barred_by.Goals as goal

pub returns-in-Some-clause-ok : goal.returns-in-Some-clause-ok
returns-in-Some-clause-ok c n =
    let index = c.args.self.now in
    let S = c.args.state.now.facts in
    let set = c.args.set.now in
    let at = ap (get_by_text index.by_set) (sym c.as_str.ensures.text) ∙ sym c.in-Some.ensures.value in
    c.in_ok-copy.ensures n ∙ set_counts index S c.requires.indexes c.requires.good set c.requires.set c.in-Some.row.now
    (subst (λ o. IfSome o (λ row. Follow (Unit {0}) (number_of index) (is_used index) (λ _. has row) (λ _. is_barred_by S set.0))) at (c.requires.indexes.barred_by set.0)) n

pub with_members-requires-clause-some : goal.with_members-requires-clause-some
with_members-requires-clause-some c =
    let set = c.args.set.now in
    omega (arith, (c.requires.good.well_formed.dsd.cardinality set.0 set.1 c.requires.set).0)

pub returns-clause-keeps : goal.returns-clause-keeps
returns-clause-keeps c =
    let index = c.args.self.now in
    let S = c.args.state.now.facts in
    let set = c.args.set.now in
    let row = c.in_ok-row.row in
    keeps_counted index (record index { by_set = c.insert.new.self }) (rows_of S) set.0 row
    (λ name. hash_map_updates_text (string_bytes c.in_ok-key.key) index.by_set c.insert.new.self (Some row) c.in_ok-insert.ensures.updates name
    ∙ ap (λ bs. update bytes_eq (get_by_text index.by_set) bs (Some row) name) (c.in_ok-key.ensures.ok ∙ c.as_str-2.ensures.text))
    (set_bars index S c.requires.indexes c.requires.good set c.requires.set row (λ n. c.in_ok-row.ensures.ok n ∙ ap (λ members. has_members index n members set.1) c.members_of.ensures))
    c.requires.indexes
