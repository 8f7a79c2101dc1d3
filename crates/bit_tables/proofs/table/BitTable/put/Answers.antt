use Rattle.std.proofs.Common.{◌≡◌, None, Some, string_bytes, sym, ◌∙◌, ap}
use Rattle.std.specs.HashMap.{get_by_text}
use Rattle.std.specs.Cmp.Lexicographic.{bytes_decides}
use Rattle.std.proofs.lemmas.Map.Text.{hash_map_updates_text}
use Rattle.bit_tables.specs.Tables.{holds, is_held}
use Rattle.bit_tables.proofs.ByName.{moved_here, moved_other, read_others}
use Rattle.bit_tables.proofs.table.BitTable.put.Goals as goal
use Rattle.bit_tables.proofs.table.BitTable.put.Goals.{in-Some, in-None+in_ok-from_str-in-None}

pub returns-clause-others : goal.returns-clause-others
returns-clause-others c other n differ =
    let name = c.args.name.now in
    let old = get_by_text c.args.self.now.rows in
    let mid = get_by_text c.remove_entry.new.self in
    let new = get_by_text c.put_back.new.self.rows in
    let entry = c.match-remove_entry.key in
    let after = Some c.in_ok-numbers.numbers in
    let taken = hash_map_updates_text name c.args.self.now.rows c.remove_entry.new.self None c.remove_entry.ensures.updates in
    let put = c.in_ok-put_back.ensures.ok in
    let named : string_bytes entry.0 ≡ name = elim c.match-remove_entry.branch [
      | in-Some w ↦ ap (λ e. string_bytes e.0) w.key-is ∙ sym ((bytes_decides _ _).0 w.in-Some.ensures.same_key)
      | in-None+in_ok-from_str-in-None w ↦ ap (λ e. string_bytes e.0) w.key-is ∙ w.in_ok-from_str-in-None.ensures.ok
    ] in
    let before : is_held (old name) n ≡ holds entry.1 n = elim c.match-remove_entry.branch [
      | in-Some w ↦ ap (λ o. is_held o n) (sym w.in-Some.ensures.value) ∙ sym (ap (λ e. holds e.1 n) w.key-is)
      | in-None+in_ok-from_str-in-None w ↦ ap (λ o. is_held o n) (sym w.in-None.ensures.value) ∙ sym (w.new.ensures n) ∙ sym (ap (λ e. holds e.1 n) w.key-is)
    ] in
    read_others (λ o. is_held o n) old new name other (moved_other old mid new name (string_bytes entry.0) after named taken put)
    (λ same. ap (λ o. is_held o n) (moved_here old mid new name (string_bytes entry.0) after named taken put) ∙ c.in_ok-numbers.ensures.others n (differ same) ∙ sym before)
