use Rattle.std.proofs.Common.{◌≡◌, ◌≢◌, None, Some, sym, ◌∙◌, ap, subst}
use Rattle.std.specs.HashMap.{get_by_text}
use Rattle.std.specs.Map.{update}
use Rattle.std.specs.Str.{bytes_eq}
use Rattle.std.proofs.lemmas.Map.Text.{hash_map_updates_text}
use Rattle.rbac_sets.specs.Sets.{Bytes}
use Rattle.bit_tables.proofs.ByName.{same_some, updated_other}
use Rattle.bit_tables.proofs.GuessLaws.{guessed_taken}
use Rattle.bit_tables.proofs.number_table.NumberTable.take.Goals as goal

pub returns-clause-taken : goal.returns-clause-taken
returns-clause-taken c =
    subst (λ text. (other : Bytes) → get_by_text c.remove.new.self other ≡ update bytes_eq (get_by_text c.args.self.now.numbers) text None other) c.as_str.ensures.text
    (hash_map_updates_text c.as_str.result.now c.args.self.now.numbers c.remove.new.self None c.remove.ensures.updates)

pub invariant_of-self : goal.invariant_of-self
invariant_of-self c = record {
  named = λ n other is.
      let old = get_by_text c.args.self.now.numbers in
      let new = get_by_text c.remove.new.self in
      let name = c.args.name.now in
      let changed : (text : Bytes) → new text ≡ update bytes_eq old name None text =
      subst (λ text. (other : Bytes) → new other ≡ update bytes_eq old text None other) c.as_str.ensures.text
      (hash_map_updates_text c.as_str.result.now c.args.self.now.numbers c.remove.new.self None c.remove.ensures.updates) in
      let was = c.clear_name.ensures n other is in
      let had = c.args.self.now.named n other was.1 in
      let number : old name ≡ Some c.in_ok-number.number = sym c.number.ensures ∙ c.in_ok-number.was in
      let differ : other ≢ name = λ same. was.0 (same_some n c.in_ok-number.number (sym had ∙ ap old same ∙ number)) in
      updated_other old new name None changed other differ ∙ had;
  guessed = guessed_taken (get_by_text c.args.self.now.numbers) (get_by_text c.remove.new.self) c.args.self.now.guesses.items c.args.name.now
      (subst (λ text. (other : Bytes) → get_by_text c.remove.new.self other ≡ update bytes_eq (get_by_text c.args.self.now.numbers) text None other) c.as_str.ensures.text
      (hash_map_updates_text c.as_str.result.now c.args.self.now.numbers c.remove.new.self None c.remove.ensures.updates))
      c.args.self.now.guessed;
}
