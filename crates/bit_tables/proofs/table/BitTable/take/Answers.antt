use Rattle.std.proofs.Common.{◌≡◌, None, Some, string_bytes, refl, sym, ◌∙◌, ap}
use Rattle.std.specs.HashMap.{get_by_text}
use Rattle.std.specs.Cmp.Lexicographic.{bytes_decides}
use Rattle.std.proofs.lemmas.Bool.{true≢false}
use Rattle.std.proofs.lemmas.Map.Text.{hash_map_updates_text}
use Rattle.bit_tables.specs.declared.table.BitTable.{BitTable}
use Rattle.bit_tables.specs.Tables.{has_at, is_held}
use Rattle.bit_tables.proofs.ByName.{moved_here, moved_other, read_others, updated_here, updated_other}
use Rattle.bit_tables.proofs.table.BitTable.take.Goals as goal
use Rattle.bit_tables.proofs.table.BitTable.take.Goals.{in-Some+then-not-is_empty+in_ok-put_back, in-Some+else-not-is_empty, in_default}

pub returns-clause-others : goal.returns-clause-others
returns-clause-others c other n differ =
    let name = c.args.name.now in
    let old = get_by_text c.args.self.now.rows in
    let mid = get_by_text c.remove_entry.new.self in
    let taken = hash_map_updates_text name c.args.self.now.rows c.remove_entry.new.self None c.remove_entry.ensures.updates in
    let gone = updated_here old mid name None taken in
    let rest = updated_other old mid name None taken in
    elim c.match-remove_entry.branch [
      | in-Some+then-not-is_empty+in_ok-put_back w ↦
          let new = get_by_text w.put_back.new.self.rows in
          let after = Some w.without-numbers.result in
          let put = w.in_ok-put_back.ensures.ok in
          let named : string_bytes w.in-Some.key ≡ name = sym ((bytes_decides _ _).0 w.in-Some.ensures.same_key) in
          ap (λ t. has_at t other n) w.self-is
          ∙ read_others (λ o. is_held o n) old new name other (moved_other old mid new name (string_bytes w.in-Some.key) after named taken put)
          (λ same. ap (λ o. is_held o n) (moved_here old mid new name (string_bytes w.in-Some.key) after named taken put) ∙ w.without-numbers.ensures.others n (differ same) ∙ ap (λ o. is_held o n) w.in-Some.ensures.value)
      | in-Some+else-not-is_empty w ↦
          ap (λ t. has_at t other n) w.self-is
          ∙ read_others (λ o. is_held o n) old mid name other rest
          (λ same. ap (λ o. is_held o n) gone ∙ sym (w.if-not-is_empty.ensures.empty refl n) ∙ w.without-numbers.ensures.others n (differ same) ∙ ap (λ o. is_held o n) w.in-Some.ensures.value)
      | in_default w ↦
          ap (λ t. has_at t other n) w.self-is
          ∙ read_others (λ o. is_held o n) old mid name other rest (λ same. ap (λ o. is_held o n) (gone ∙ w.in_default.ensures.value))
    ]

pub returns-clause-forgets : goal.returns-clause-forgets
returns-clause-forgets c empty =
    let name = c.args.name.now in
    let old = get_by_text c.args.self.now.rows in
    let mid = get_by_text c.remove_entry.new.self in
    let taken = hash_map_updates_text name c.args.self.now.rows c.remove_entry.new.self None c.remove_entry.ensures.updates in
    let gone = updated_here old mid name None taken in
    elim c.match-remove_entry.branch [
      | in-Some+then-not-is_empty+in_ok-put_back w ↦
          let new = get_by_text w.put_back.new.self.rows in
          let after = Some w.without-numbers.result in
          let named : string_bytes w.in-Some.key ≡ name = sym ((bytes_decides _ _).0 w.in-Some.ensures.same_key) in
          let left = w.if-not-is_empty.ensures.some refl in
          absurd (true≢false (sym left.1 ∙ sym (ap (λ o. is_held o left.0) (moved_here old mid new name (string_bytes w.in-Some.key) after named taken w.in_ok-put_back.ensures.ok))
          ∙ sym (ap (λ t. has_at t name left.0) w.self-is) ∙ empty left.0))
      | in-Some+else-not-is_empty w ↦ ap (λ (t : BitTable). get_by_text t.rows name) w.self-is ∙ gone
      | in_default w ↦ ap (λ (t : BitTable). get_by_text t.rows name) w.self-is ∙ gone
    ]
