-- What the paths of a folder lead to, and what calls change of it.
use Rattle.std.specs.Prelude.{◌≡◌, ◌⊎◌, ◌∷◌, [], ℕ, false, List, Option, Some, None, codes, if◌then◌else◌}
use Rattle.std.specs.List.{list_any}
use Rattle.std.specs.Str.{bytes_eq}
use Rattle.role_cli.specs.declared.folder.Entry.{Entry}
use Rattle.role_cli.specs.declared.folder.Entry.TheVariants as entry

-- what each path leads to, and the path of the file with an ending, beside the file that a path leads to
pub record Paths : Type 0 where
  pub at : List ℕ → Entry
  pub beside : List ℕ → List ℕ → List ℕ

-- the log of the office at a path, and the index of this log
abbrev pub log_of : List ℕ → Paths → List ℕ
log_of path known = known.beside path (codes "-wal")

abbrev pub index_of : List ℕ → Paths → List ℕ
index_of path known = known.beside path (codes "-shm")

-- the length of the file, if there is one
abbrev pub length_in : Entry → Option ℕ
length_in (entry.File length) = Some length
length_in _ = None

-- the same paths, but one leads to this
abbrev pub with_entry : List ℕ → Entry → Paths → Paths
with_entry path it known = record known { at = λ other. if bytes_eq other path then it else known.at other }

-- nothing is at this path
abbrev pub without : List ℕ → Paths → Paths
without path known = with_entry path entry.Nothing known

-- an empty file is at this path
abbrev pub with_empty : List ℕ → Paths → Paths
with_empty path known = with_entry path (entry.File 0) known

-- what is at any other path than these stays
abbrev pub ChangesOnly : List (List ℕ) → Paths → Paths → Type 0
ChangesOnly changed old new = (new.beside ≡ old.beside) × ((path : List ℕ) → list_any (bytes_eq path) changed ≡ false → new.at path ≡ old.at path)

-- the paths of an office: its file, its log, and the index of this log
abbrev pub office_paths : List ℕ → Paths → List (List ℕ)
office_paths path known = path ∷ (log_of path known ∷ (index_of path known ∷ []))

-- The store of the office at this path was opened or closed: the three paths of this office may lead to anything now, and each other path
-- leads to what it led to.
abbrev pub ChangesOffice : List ℕ → Option Paths → Option Paths → Type 0
ChangesOffice path None now = now ≡ None
ChangesOffice path (Some old) now = (new : Paths) × (now ≡ Some new) × ChangesOnly (office_paths path old) old new

-- At other paths than these nothing changed. If no call failed, the paths became the wanted ones.
abbrev pub Changes : List (List ℕ) → (wanted : Paths) → (call_failed : Type 0) → Paths → Option Paths → Type 0
Changes changed wanted call_failed old now = (new : Paths) × (now ≡ Some new) × ChangesOnly changed old new × ((new ≡ wanted) ⊎ call_failed)

-- the same, if the paths are known
abbrev pub ChangesKnown : (Paths → List (List ℕ)) → (Paths → Paths) → (call_failed : Type 0) → Option Paths → Option Paths → Type 0
ChangesKnown changed wanted call_failed None now = now ≡ None
ChangesKnown changed wanted call_failed (Some old) now = Changes (changed old) (wanted old) call_failed old now
