-- No action is triggered if no foreign key of the schema names the table.
use Rattle.std.proofs.Common.{◌≡◌, ◌||◌, inl, inr, ◌==◌, List, [], ◌∷◌, length, flat_map, filter_map, Bool, true, false, Option, Some, None, refl, ◌∙◌}
use Rattle.std.proofs.lemmas.Bool.{cases_Bool, eqb-true}
use Rattle.std.specs.List.{list_any}
use Rattle.sqlite.specs.Order.{Row}
use Rattle.sqlite.specs.Schema.{Schema}
use Rattle.sqlite.specs.Table.{Table}
use Rattle.sqlite_schema.specs.Names.{same_name}
use Rattle.sqlite_schema.specs.Rules.{ParentKey, parent_key}
use Rattle.sqlite_schema.specs.declared.schema.Keys.{Keys}
use Rattle.sqlite_schema.specs.declared.schema.Reference.{Reference}
use Rattle.sqlite_rules.specs.Lists.{Has}
use Rattle.sqlite_rules.specs.Action.{work_by, work_for, deed_for, pairs}
use Rattle.sqlite_rules.specs.declared.action.Deed.{Deed}
use Rattle.sqlite_rules.proofs.PlaceLemmas.{named_parent}
use Rattle.role_tables.specs.TableByName.{IsAlone, is_referred, refers_to}
use Rattle.role_tables.specs.private.NamedTables.{IsUnreferenced}

or_none : (a b : Bool) → (a || b) ≡ false → (a ≡ false) × (b ≡ false)
or_none true b h = absurd (cc)
or_none false b h = (refl, h)

-- a test that no element passes fails on each
none_passes : {A : Type 0} (p : A → Bool) (xs : List A) (x : A) → list_any p xs ≡ false → Has xs x → p x ≡ false
none_passes p [] x none h = absurd h
none_passes p (y ∷ ys) x none (inl here) = rw here ((or_none (p y) (list_any p ys) none).0)
none_passes p (y ∷ ys) x none (inr later) = none_passes p ys x ((or_none (p y) (list_any p ys) none).1) later

module _ (schema : Schema) (table : Table) (alone : IsAlone schema table) (free : is_referred schema table.name ≡ false) where
  no_work : (keys : Keys) (olds news : List Row) (child : Table) (ref : Reference) → same_name table.name ref.parent ≡ false → work_for schema keys 0 table.tree olds news child ref ≡ None
  no_work keys olds news child ref other = go (deed_for keys (length news == 0) ref) (parent_key schema.tables ref) refl
    where
      go : (d : Option Deed) (k : Option ParentKey) → parent_key schema.tables ref ≡ k → work_by 0 table.tree (pairs olds news) child ref d k ≡ None
      go None k is = refl
      go (Some d) None is = refl
      go (Some d) (Some key) is = elim (cases_Bool (key.0 == table.tree)) [
        | inl same ↦
            let parent = named_parent schema.tables ref key is in
            let one = alone parent.0 parent.1 (parent.2 ∙ eqb-true key.0 table.tree same) in
            absurd (let hit = rw one at parent.3 in cc)
        | inr apart_here ↦ rw apart_here refl
      ]

  none_of : (keys : Keys) (olds news : List Row) (child : Table) (refs : List Reference) → list_any (λ ref. same_name table.name ref.parent) refs ≡ false
      → filter_map (work_for schema keys 0 table.tree olds news child) refs ≡ []
  none_of keys olds news child [] none = refl
  none_of keys olds news child (ref ∷ refs) none =
      let both = or_none (same_name table.name ref.parent) (list_any (λ r. same_name table.name r.parent) refs) none in
      rw (no_work keys olds news child ref both.0) (none_of keys olds news child refs both.1)

  none_among : (keys : Keys) (olds news : List Row) (tables : List Table) → list_any (refers_to table.name) tables ≡ false
      → flat_map (λ child. filter_map (work_for schema keys 0 table.tree olds news child) child.references) tables ≡ []
  none_among keys olds news [] none = refl
  none_among keys olds news (child ∷ tables) none =
      let both = or_none (refers_to table.name child) (list_any (refers_to table.name) tables) none in
      rw (none_of keys olds news child child.references both.0) (none_among keys olds news tables both.1)

  pub unreferenced : IsUnreferenced schema table
  unreferenced keys olds news = none_among keys olds news schema.tables free
