-- Reading a table to its end, row by row.
use Rattle.std.proofs.Common.{◌≡◌, inl, inr, ℕ, List, [], ◌∷◌, ◌++◌, map, Bool, true, false, ◌&&◌, Option, Some, None, IsSome, IsTrue, Result, Ok, Err, refl, sym, ap, subst, ◌∙◌}
use Rattle.std.specs.List.{list_all}
use Rattle.std.proofs.lemmas.Bool.{and_parts}
use Rattle.std.proofs.lemmas.List.{append-nil, append_assoc}
use Rattle.std.proofs.lemmas.List.Folds.{list_all-append}
use Rattle.std.specs.List.Sorted.{IsPermutation}
use Rattle.sqlite.specs.Order.{Row}
use Rattle.sqlite.specs.Effect.{Database}
use Rattle.sqlite.specs.Tree.{Trees}
use Rattle.sqlite.specs.Listing.{understood}
use Rattle.sqlite.specs.State.{State, IsUnchanged, Survives, Shown, CommitsShowing, KeepsCommit, Fails, FailsToQuery, FailsToShow, IsNotRun}
use Rattle.sqlite.specs.Clock.{timed}
use Rattle.sqlite.specs.declared.error.Error.{Error}
use Rattle.sqlite_schema.specs.declared.command.Returning.{Returning}
use Rattle.sqlite.proofs.InsideLemmas.{unchanged_keeps}
use Rattle.sqlite.specs.Held.{Held, state}
use Rattle.sqlite.specs.Given.{HasBegun, HasGiven, Returns, IsPlain}
use Rattle.sqlite.proofs.Callers.{unchanged_then}
use Rattle.sqlite.proofs.StateLemmas.{survives_then, survives_weaker}
use Rattle.sqlite_trees.specs.declared.store.Store.{Ghosts}
use Rattle.sqlite_resolve.specs.declared.compiled.Compiled.{Compiled}
use Rattle.sqlite_resolve.specs.declared.error.CompileError.{CompileError}
use Rattle.role_tables.specs.OfficeTables.{StoredTable}
use Rattle.role_tables.specs.private.Texts.{read_text}
use Rattle.role_tables.specs.TableContents.{is_well_typed, has_names, row_in, contents_of}
use Rattle.role_tables.specs.declared.gathering.Gathering.{Gathering}
use Rattle.role_tables.specs.private.GatheredRows.{Gathers, IsRead}
use Rattle.role_tables.proofs.Reading.Finding.{IsFound, found, plain, never, shows_found}

-- ---- what is gathered

and_true : (b : Bool) → b ≡ (b && true)
and_true true = refl
and_true false = refl

and_assoc : (a b c : Bool) → ((a && b) && c) ≡ (a && (b && c))
and_assoc true b c = refl
and_assoc false b c = refl

pub gathers_none : (kind : StoredTable) (into : Gathering) → Gathers kind [] into into
gathers_none kind into = record { whole = and_true _; named = λ _. and_true _; rows = λ _ _. sym (append-nil _) }

mapped : {A B : Type 0} (f : A → B) (xs : List A) (y : A) → map f (xs ++ y ∷ []) ≡ map f xs ++ f y ∷ []
mapped f [] y = refl
mapped f (x ∷ xs) y = ap (λ l. f x ∷ l) (mapped f xs y)

pub gathers_more : (kind : StoredTable) (xs : List Row) (y : Row) (a b c : Gathering) → Gathers kind xs a b → Gathers kind (y ∷ []) b c → Gathers kind (xs ++ y ∷ []) a c
gathers_more kind xs y a b c one two = record {
  whole = joined (is_well_typed kind) c.is_well_typed b.is_well_typed a.is_well_typed two.whole one.whole;
  named = λ whole. joined (has_names kind) c.is_named b.is_named a.is_named (two.named whole) (one.named (was_whole whole));
  rows = λ whole named. two.rows whole named ∙ ap (λ l. l ++ row_in kind y ∷ []) (one.rows (was_whole whole) (was_named whole named)) ∙ append_assoc a.rows.items _ _ ∙ ap (λ l. a.rows.items ++ l) (sym (mapped (row_in kind) xs y));
}
  where
    joined : (p : Row → Bool) (c b a : Bool) → c ≡ (b && list_all p (y ∷ [])) → b ≡ (a && list_all p xs) → c ≡ (a && list_all p (xs ++ y ∷ []))
    joined p c b a two one = two ∙ ap (λ o. o && list_all p (y ∷ [])) one ∙ and_assoc a (list_all p xs) (list_all p (y ∷ [])) ∙ ap (λ o. a && o) (sym (list_all-append p xs (y ∷ [])))

    was_whole : IsTrue c.is_well_typed → IsTrue b.is_well_typed
    was_whole whole = (and_parts b.is_well_typed (list_all (is_well_typed kind) (y ∷ [])) (sym two.whole ∙ whole)).0

    was_named : IsTrue c.is_well_typed → IsTrue c.is_named → IsTrue b.is_named
    was_named whole named = (and_parts b.is_named (list_all (has_names kind) (y ∷ [])) (sym (two.named whole) ∙ named)).0

-- ---- the query

pub some_values : (o : Option (List Row)) → IsSome o → (values : List Row) × (o ≡ Some values)
some_values None is = absurd (let e = is in cc)
some_values (Some values) is = (values, refl)

read_so : (o : Option (List Row)) (values shown : List Row) → o ≡ Some values → IsPermutation values shown → IsRead o shown
read_so o values shown is same = subst (λ o. IsRead o shown) (sym is) same

module _ {S : Type 0} (g : Ghosts S) (kind : StoredTable) (old : Held S) where
  -- the table is missing
  abbrev pub Unfound : Trees → Type 0
  Unfound db = IsSome (contents_of (state g old).now kind) → ⊥

  it_is : (is : IsSome (contents_of (state g old).now kind)) → IsFound (state g old).now kind (some_values (contents_of (state g old).now kind) is).0
  it_is is = found (state g old).now kind (some_values (contents_of (state g old).now kind) is).0 (some_values (contents_of (state g old).now kind) is).1

  never_found : (db : Trees) → CommitsShowing (read_text kind) [] (state g old) db → Unfound db
  never_found db h is = never kind (state g old) (some_values (contents_of (state g old).now kind) is).0 (it_is is) db h

  pub refused_survives : (text : List ℕ) (new : State) → text ≡ read_text kind → Survives (state g old) new (CommitsShowing text [] (state g old)) → Survives (state g old) new Unfound
  refused_survives text new is kept = survives_weaker (state g old) new _ Unfound (λ _ db h. never_found db (subst (λ t. CommitsShowing t [] (state g old) db) is h)) kept

  begun : (new : Held S) → IsSome (contents_of (state g old).now kind) → HasBegun g (read_text kind) [] old new → HasGiven g (read_text kind) [] new [] × IsUnchanged (state g old) (state g new)
  begun new is (inl h) = h
  begun new is (inr h) = absurd (go (understood old.schema (read_text kind)) refl h.0)
    where
      go : (r : Result Compiled CompileError) → understood old.schema (read_text kind) ≡ r → Returns r → ⊥
      go (Err e) e_is returns = returns
      go (Ok c) c_is returns =
          let bare : c.returning ≡ None = (subst IsPlain c_is (plain kind (state g old) (some_values (contents_of (state g old).now kind) is).0 (it_is is) c c_is)).0 in
          none_of c.returning bare returns
        where
          none_of : {A : Type 0} (o : Option A) → o ≡ None → IsSome o → ⊥
          none_of None is some = let e = some in cc
          none_of (Some x) is some = absurd (cc)

  pub begun_found : (text : List ℕ) (new : Held S) → text ≡ read_text kind → IsSome (contents_of (state g old).now kind) → HasBegun g text [] old new → HasGiven g (read_text kind) [] new [] × IsUnchanged (state g old) (state g new)
  begun_found text new is there h = begun new there (subst (λ t. HasBegun g t [] old new) is h)

  pub more_survives : (mid new : State) → Survives (state g old) mid Unfound → Survives mid new (λ _. ⊥) → Survives (state g old) new Unfound
  more_survives mid new = survives_then (state g old) mid new Unfound (λ _. ⊥) Unfound (λ _ db h. h) (λ _ db none. absurd none)

  -- all rows have been read
  pub ended : (mid new : Held S) (shown : List Row) (is : IsSome (contents_of (state g old).now kind)) → IsUnchanged (state g old) (state g mid) → Shown (read_text kind) [] (state g mid) (state g new) shown
      → IsRead (contents_of (state g old).now kind) shown × IsUnchanged (state g old) (state g new)
  ended mid new shown is same last =
      let now_is : (state g mid).now ≡ (state g old).now = same.0.now_is in
      let there : contents_of (state g mid).now kind ≡ Some (some_values (contents_of (state g old).now kind) is).0 = ap (λ (db : Database). contents_of db kind) now_is ∙ (some_values (contents_of (state g old).now kind) is).1 in
      let read = shows_found kind (state g mid) _ (found (state g mid).now kind _ there) (state g new) shown last in
      (read_so (contents_of (state g old).now kind) _ shown (some_values (contents_of (state g old).now kind) is).1 read.0, unchanged_then (state g old) (state g mid) (state g new) same read.1)

-- ---- what was committed stays

fails_keeps : (old new : State) (e : Error) (too_big : Type 0) → Fails old new too_big e → KeepsCommit old new
fails_keeps old new e too_big fails = unchanged_keeps old new (inr fails.3)

pub query_keeps : (sql : List ℕ) (params : Row) (old new : State) (e : Error) → FailsToQuery sql params old new e → KeepsCommit old new
unfolding FailsToQuery IsNotRun
query_keeps sql params old new e (inl (inl same)) = unchanged_keeps old new (inl same.1)
query_keeps sql params old new e (inl (inr fails)) = fails_keeps old new e ⊥ fails
query_keeps sql params old new e (inr (c, it, shown)) = shows c.returning shown
  where
    shows : (what : Option Returning) → FailsToShow old new sql c (timed params c.formats it.now) e what → KeepsCommit old new
    shows None h = unchanged_keeps old new (inl h.3)
    shows (Some returning) (inl h) = unchanged_keeps old new (inl h.1)
    shows (Some returning) (inr h) = fails_keeps old new e _ h
