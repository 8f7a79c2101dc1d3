use Rattle.std.proofs.Common.{◌≡◌, ◌≢◌, Some, inl, inr, refl, get_or, string_bytes, sym, ◌∙◌, ap, subst}
use Rattle.std.specs.HashMap.{get_by_text}
use Rattle.std.specs.Map.{update}
use Rattle.std.specs.Str.{bytes_eq}
use Rattle.std.proofs.lemmas.Map.Text.{hash_map_updates_text}
use Rattle.rbac_sets.specs.Sets.{Bytes}
use Rattle.rbac_sets.specs.Name.{fingerprint}
use Rattle.bit_tables.specs.declared.number_table.TheConstants.{NEVER}
use Rattle.bit_tables.proofs.GuessLaws.{guessed_put, guessed_same, number_guessed}
use Rattle.bit_tables.proofs.ByName.{some_none, updated_here, updated_other}
use Rattle.bit_tables.proofs.number_table.NumberTable.put.Goals as goal

pub returns-clause-put : goal.returns-clause-put
returns-clause-put c =
    subst (λ text. (other : Bytes) → get_by_text c.insert.new.self other ≡ update bytes_eq (get_by_text c.args.self.now.numbers) text (Some c.args.number) other) (c.in_ok-key.ensures.ok ∙ c.as_str.ensures.text)
    (hash_map_updates_text (string_bytes c.in_ok-key.key) c.args.self.now.numbers c.insert.new.self (Some c.args.number) c.in_ok-insert.ensures.updates)

pub invariant_of-self-2 : goal.invariant_of-self-2
invariant_of-self-2 c = record {
  named = λ n other is.
      let old = get_by_text c.args.self.now.numbers in
      let new = get_by_text c.insert.new.self in
      let name = c.args.name.now in
      let changed : (text : Bytes) → new text ≡ update bytes_eq old name (Some c.args.number) text =
      subst (λ text. (other : Bytes) → new other ≡ update bytes_eq old text (Some c.args.number) other) (c.in_ok-key.ensures.ok ∙ c.as_str.ensures.text)
      (hash_map_updates_text (string_bytes c.in_ok-key.key) c.args.self.now.numbers c.insert.new.self (Some c.args.number) c.in_ok-insert.ensures.updates) in
      elim (c.set_name.ensures n other is) [
        | inl here ↦ ap new (here.1 ∙ c.in_ok-copy.ensures.ok) ∙ updated_here old new name (Some c.args.number) changed ∙ ap Some (sym here.0)
        | inr before ↦
            let had = c.args.self.now.named n other (c.reach_name.ensures.same n other before) in
            let differ : other ≢ name = λ same. some_none n (sym had ∙ ap old same ∙ c.requires.absent) in
            updated_other old new name (Some c.args.number) changed other differ ∙ had
      ];
  guessed =
      let old = get_by_text c.args.self.now.numbers in
      let new = get_by_text c.insert.new.self in
      let first = c.args.self.now.guesses.items in
      let reached = c.reach_guess.new.guesses.items in
      let set = c.set_guess.new.guesses.items in
      let name = c.args.name.now in
      let place = c.fingerprint-2.ensures.value in
      let changed : (text : Bytes) → new text ≡ update bytes_eq old name (Some c.args.number) text =
      subst (λ text. (other : Bytes) → new other ≡ update bytes_eq old text (Some c.args.number) other) (c.in_ok-key.ensures.ok ∙ c.as_str.ensures.text)
      (hash_map_updates_text (string_bytes c.in_ok-key.key) c.args.self.now.numbers c.insert.new.self (Some c.args.number) c.in_ok-insert.ensures.updates) in
      guessed_put old new reached set name c.args.number changed
      (number_guessed (get_or set (fingerprint name) NEVER) c.args.number (ap (λ at. get_or set at NEVER) (sym place) ∙ c.set_guess.ensures.here) c.requires.number)
      (λ n differ. c.set_guess.ensures.others n (λ same. differ (same ∙ place)))
      (guessed_same old old first reached (λ other. refl) c.reach_guess.ensures.same c.args.self.now.guessed);
}
