-- What the calls of a folder in memory change of its paths.
use Rattle.std.proofs.Common.{◌≡◌, ◌≢◌, ◌∙◌, ◌∷◌, [], ℕ, Bool, true, false, List, Option, Some, inl, inr, ap, refl, subst, sym}
use Rattle.std.specs.Prelude.{IfSome, None, if◌then◌else◌}
use Rattle.std.specs.Cmp.Lexicographic.{bytes_decides}
use Rattle.std.specs.List.{list_any}
use Rattle.std.specs.Str.{bytes_eq}
use Rattle.std.proofs.lemmas.Bool.{cases_Bool}
use Rattle.role_cli.specs.Hosts.{holds_only}
use Rattle.role_cli.specs.Paths.{Changes, ChangesOffice, ChangesOnly, Paths, office_paths, with_entry, without}
use Rattle.role_cli.specs.declared.folder.Entry.{Entry}
use Rattle.role_cli.specs.declared.folder.Entry.TheVariants as entry
use Rattle.role_cli.proofs.PathChanges.{or_false}

-- what was at a path doesn't matter for what is there now
replaced : (b : Bool) (was it : Entry) → (if b then it else entry.Nothing) ≡ (if b then it else (if b then was else entry.Nothing))
replaced true was it = refl
replaced false was it = refl

replaced_here : (here : List ℕ) (was it : Entry) → holds_only here it ≡ with_entry here it (holds_only here was)
replaced_here here was it = λ i. record (holds_only here it) { at = λ other. replaced (bytes_eq other here) was it i }

-- the path of the folder leads to something else now
pub replaced_at : (path here : List ℕ) (was it : Entry) → bytes_eq path here ≡ true → holds_only here it ≡ with_entry path it (holds_only here was)
replaced_at path here was it same = subst (λ p. holds_only here it ≡ with_entry p it (holds_only here was)) (sym ((bytes_decides path here).0 same)) (replaced_here here was it)

-- at any other path is nothing, so that nothing is removed there
removed_other : (path here other : List ℕ) (was : Entry) → bytes_eq path here ≡ false → (holds_only here was).at other ≡ (without path (holds_only here was)).at other
removed_other path here other was differ = elim (cases_Bool (bytes_eq other path)) [
  | inl same ↦ (let gone = ap (λ o. bytes_eq o here) ((bytes_decides other path).0 same) ∙ differ in
      subst (λ b. (holds_only here was).at other ≡ (if b then entry.Nothing else (holds_only here was).at other)) (sym same) (ap (λ (b : Bool). if b then was else entry.Nothing) gone))
  | inr not ↦ subst (λ b. (holds_only here was).at other ≡ (if b then entry.Nothing else (holds_only here was).at other)) (sym not) refl
]

pub removed_elsewhere : (path here : List ℕ) (was : Entry) → bytes_eq path here ≡ false → holds_only here was ≡ without path (holds_only here was)
removed_elsewhere path here was differ = λ i. record (holds_only here was) { at = λ other. removed_other path here other was differ i }

-- no other path than this one changed
changes_one : (path : List ℕ) (it : Entry) (old : Paths) → ChangesOnly (path ∷ []) old (with_entry path it old)
changes_one path it old =
    (refl, λ other not. subst (λ b. (if b then it else old.at other) ≡ old.at other) (sym (or_false (bytes_eq other path) false not).0) refl)

pub changes_to : (path : List ℕ) (it : Entry) (call_failed : Type 0) (old new : Paths) → new ≡ with_entry path it old → Changes (path ∷ []) (with_entry path it old) call_failed old (Some new)
changes_to path it call_failed old new is = (new, refl, subst (ChangesOnly (path ∷ []) old) (sym is) (changes_one path it old), inl is)

-- an opening changed what is at its path, if that is the one of the folder
pub opened_in_memory : (path here : List ℕ) (was it : Entry) → (bytes_eq path here ≡ false → it ≡ was) → ChangesOffice path (Some (holds_only here was)) (Some (holds_only here it))
opened_in_memory path here was it kept = (holds_only here it, refl, (refl, λ other not. at_other other (or_false (bytes_eq other path) _ not).0))
  where
    at_other : (other : List ℕ) → bytes_eq other path ≡ false → (holds_only here it).at other ≡ (holds_only here was).at other
    at_other other not = elim (cases_Bool (bytes_eq path here)) [
      | inl same ↦ (let gone = ap (bytes_eq other) (sym ((bytes_decides path here).0 same)) ∙ not in
          ap (λ (b : Bool). if b then it else entry.Nothing) gone ∙ sym (ap (λ (b : Bool). if b then was else entry.Nothing) gone))
      | inr differ ↦ ap (λ (e : Entry). if bytes_eq other here then e else entry.Nothing) (kept differ)
    ]

-- a path at which a store was opened is that of the folder
pub opened_where : (is_here : Bool) (path here : List ℕ) → is_here ≡ bytes_eq path here → IfSome (if is_here then Some here else None) (λ at. at ≡ path)
opened_where true path here is = sym ((bytes_decides path here).0 (sym is))
opened_where false path here is = tt
