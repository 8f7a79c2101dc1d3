-- What CREATE TABLE creates, whatever the table.
use Rattle.std.proofs.Common.{◌≡◌, ℕ, List, [], false, None, Ok, sym, ap, subst, ◌∙◌}
use Rattle.sqlite.specs.Schema.{Schema}
use Rattle.sqlite.specs.Table.{Table}
use Rattle.sqlite.specs.Command.TheVariants.{CreateTable}
use Rattle.sqlite.specs.Compile.{table_defined_by}
use Rattle.sqlite.specs.Change.{created, next_tree, KeepsRows}
use Rattle.sqlite.specs.Does.{Tally, lacks_sequence}
use Rattle.sqlite.specs.Listing.{understood}
use Rattle.sqlite.specs.Effect.{Database}
use Rattle.sqlite.specs.State.{State, Writes, Executes}
use Rattle.sqlite.proofs.Callers.{IsPlain, command_of, statement_of, runs_as}
use Rattle.role_tables.specs.private.CreationSteps.{Creates}
use Rattle.role_tables.proofs.Meanings.Parts.{went, same_value}

module _ (schema : Schema) (table : Table) (sql : List ℕ) (is : command_of (understood schema sql) ≡ CreateTable) (text : statement_of sql (understood schema sql) ≡ sql) (defined : table_defined_by sql ≡ Ok table)
    (plain : IsPlain (understood schema sql)) (uncounted : lacks_sequence (created schema table) ≡ false) where
  pub creates : (old new : State) (count : ℕ) → old.now.schema ≡ schema → Executes sql [] old new (Ok count) → Creates schema table old new
  creates old new count has h =
      let w = subst (λ t. Writes old new None CreateTable t [] count) text (runs_as sql [] old new schema has CreateTable is plain count h) in
      let all = went w.changed in
      let first = went all.1 in
      let made = first.1 in
      let both : Ok made.table ≡ Ok table = sym made.defined ∙ defined in
      let same : made.table ≡ table = same_value both in
      let after : first.0.schema ≡ created schema table = made.is ∙ ap (λ s. created s made.table) has ∙ ap (created schema) same in
      let none : lacks_sequence first.0.schema ≡ false = ap lacks_sequence after ∙ uncounted in
      let now : new.now ≡ first.0 = ap (λ (p : Tally × Database). p.1) (same_value all.2) ∙ same_value (rw none at first.2) in
      record {
        schema_is = ap (λ (d : Database). d.schema) now ∙ after;
        empty = ap (λ (d : Database). d.trees (next_tree schema)) now ∙ subst (λ s. first.0.trees (next_tree s) ≡ []) has made.empty;
        others = subst (λ (d : Database). KeepsRows schema.tables old.now.trees d.trees) (sym now) (subst (λ (s : Schema). KeepsRows s.tables old.now.trees first.0.trees) has made.others);
        sound = w.sound;
      }
