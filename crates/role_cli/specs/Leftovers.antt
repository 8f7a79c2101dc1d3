-- What is at the path of an office before the work, and what is removed if no office could be opened or created.
use Rattle.std.specs.Prelude.{◌≡◌, ◌≢◌, ◌⊎◌, ◌≤◌, ◌<◌, ◌+◌, ℕ, Bool, false, List, [], ◌∷◌, Option, Some, None, IfSome, IsSomeAnd, if◌then◌else◌}
use Rattle.rbac_sets.specs.Stream.{HasRisen, one_more}
use Rattle.rbac_sets.specs.declared.refusal.Refusal.TheVariants.{Memory, NotAnOffice, Store}
use Rattle.sqlite_disk.specs.declared.Disk.{Ghosts}
use Rattle.sqlite_disk.specs.declared.Files.{Files}
use Rattle.role_cli.specs.Paths.{Changes, ChangesKnown, ChangesOffice, Paths, index_of, length_in, log_of, with_empty, without}
use Rattle.role_cli.specs.Work.{creates}
use Rattle.role_cli.specs.declared.choice.Choice.{Choice}
use Rattle.role_cli.specs.declared.choice.Choice.TheVariants.{Init}
use Rattle.role_cli.specs.declared.failure.Failure.{Failure}
use Rattle.role_cli.specs.declared.failure.Failure.TheVariants.{Refused}
use Rattle.role_cli.specs.declared.folder.Entry.{Entry}
use Rattle.role_cli.specs.declared.folder.Entry.TheVariants as entry
use Rattle.role_cli.specs.declared.leftovers.PathState.{PathState}
use Rattle.role_cli.specs.declared.leftovers.PathState.TheVariants.{Nothing, EmptyFile, Bytes}
use Rattle.role_cli.specs.declared.store_after.StoreAfter.{StoreAfter}
use Rattle.role_cli.specs.declared.store_after.StoreAfter.TheVariants as after

-- ---- before the work

-- there is a file that is not empty
abbrev pub HasByte : Option ℕ → Type 0
HasByte file = IsSomeAnd file (λ length. 1 ≤ length)

-- a file whose length is one of these
abbrev pub IsFile : Entry → (ℕ → Type 0) → Type 0
IsFile it Has = (length : ℕ) × (it ≡ entry.File length) × Has length

-- an opening would read a file of this length at the path as a new database: it has up to one byte, and the log beside it has none
abbrev pub IsReadAsNew : List ℕ → Paths → ℕ → Type 0
IsReadAsNew path known length = (length ≤ 1) × ¬ (HasByte (length_in (known.at (log_of path known))))

-- what was at the path of a new office
abbrev pub IsStateOf : PathState → Entry → Type 0
IsStateOf Nothing it = it ≡ entry.Nothing
IsStateOf EmptyFile it = it ≡ entry.File 0
IsStateOf Bytes it = IsFile it (λ length. 1 ≤ length)

-- This was at the path before the work: of an office, a file that is no new database.
abbrev pub IsBefore : Choice → List ℕ → PathState → Paths → Type 0
IsBefore (Init _) path before known = IsStateOf before (known.at path)
IsBefore _ path before known = (before ≡ Bytes) × IsFile (known.at path) (λ length. ¬ (IsReadAsNew path known length))

-- there can be no office at a path that leads to this
abbrev pub IsNoPlaceFor : Choice → Entry → Type 0
IsNoPlaceFor (Init _) it = it ≡ entry.Other
IsNoPlaceFor _ it = length_in it ≡ None

-- The work can't begin: nothing at the path can be an office, the file would be read as a new database, or a call of the folder failed.
abbrev pub CannotBegin : Choice → List ℕ → Failure → Option Paths → (call_failed : Type 0) → Type 0
CannotBegin chosen path failure paths call_failed =
    ((failure ≡ Refused Store) × IfSome paths (λ known. IsNoPlaceFor chosen (known.at path)))
    ⊎ (((failure ≡ Refused NotAnOffice) × (creates chosen ≡ false) × IfSome paths (λ known. IsFile (known.at path) (IsReadAsNew path known)))
    ⊎ (((failure ≡ Refused Memory) ⊎ (failure ≡ Refused Store)) × call_failed))

-- No work was done: it can't begin, or the files could not be opened.
abbrev pub NeverBegins : {F : Type 0} {g : Ghosts F} → Choice → List ℕ → Failure → Option Paths → (call_failed : Type 0) → StoreAfter F g → Type 0
NeverBegins chosen path failure paths call_failed (after.Unopened opened) = (failure ≡ Refused Store) × call_failed
NeverBegins chosen path failure paths call_failed _ = CannotBegin chosen path failure paths call_failed

-- Unless no opening was tried, the last one was at this path, if its path is known.
abbrev pub OpensAt : {F : Type 0} {g : Ghosts F} → List ℕ → StoreAfter F g → (opened_at : Option (List ℕ)) → Type 0
OpensAt path became opened_at = became ≢ after.Untouched → IfSome opened_at (λ at. at ≡ path)

-- no file of an office was opened, and the folder was not even asked
abbrev pub OpensNoFile : {F D : Type 0} {g : Ghosts D} → (folder now_folder : F) → StoreAfter D g → Type 0
OpensNoFile folder now_folder became = (now_folder ≡ folder) × (became ≡ after.Untouched)

-- ---- after the work

-- a log of this length holds no whole page: it is shorter than its header, the header of a page, and the smallest page
abbrev pub HasNoPage : ℕ → Type 0
HasNoPage length = length < 32 + 24 + 512

-- there is a file of at most one page, the first one of a new database, and a log, if there is one, holds no whole page
abbrev pub IsBegun : (file log : Option ℕ) → Type 0
IsBegun file log = IsSomeAnd file (λ length. (length ≤ 4096) × IfSome log HasNoPage)

-- the log of an office holds no page, or an office was only begun where there was none
abbrev pub HasLeftover : PathState → List ℕ → Paths → Type 0
HasLeftover Bytes path known = IsSomeAnd (length_in (known.at (log_of path known))) HasNoPage
HasLeftover _ path known = IsBegun (length_in (known.at path)) (length_in (known.at (log_of path known)))

-- the paths that this concerns
abbrev pub leftovers : PathState → List ℕ → Paths → List (List ℕ)
leftovers Bytes path known = log_of path known ∷ []
leftovers _ path known = log_of path known ∷ (index_of path known ∷ (path ∷ []))

-- neither a log nor its index is there
abbrev pub without_siblings : List ℕ → Paths → Paths
without_siblings path known = without (index_of path known) (without (log_of path known) known)

-- what is at the paths once the leftover is removed: an office keeps its file, an empty file is empty again, and where nothing was is nothing
abbrev pub without_leftover : PathState → List ℕ → Paths → Paths
without_leftover Bytes path known = without (log_of path known) known
without_leftover EmptyFile path known = with_empty path (without_siblings path known)
without_leftover Nothing path known = without path (without_siblings path known)

-- A leftover is removed, and nothing else is touched.
abbrev pub Restores : PathState → List ℕ → (call_failed : Type 0) → Option Paths → Option Paths → Type 0
Restores before path call_failed None now = now ≡ None
Restores before path call_failed (Some known) now =
    (HasLeftover before path known × Changes (leftovers before path known) (without_leftover before path known) call_failed known now)
    ⊎ ((now ≡ Some known) × ((¬ HasLeftover before path known) ⊎ call_failed))

-- An empty file is removed, if nothing was there before.
abbrev pub RemovesEmpty : PathState → List ℕ → (call_failed : Type 0) → Option Paths → Option Paths → Type 0
RemovesEmpty before path call_failed None now = now ≡ None
RemovesEmpty before path call_failed (Some known) now =
    ((before ≡ Nothing) × (known.at path ≡ entry.File 0) × Changes (path ∷ []) (without path known) call_failed known now)
    ⊎ ((now ≡ Some known) × ¬ ((before ≡ Nothing) × (known.at path ≡ entry.File 0)))

-- The log and its index are removed, and nothing else is touched.
abbrev pub RemovesSiblings : List ℕ → (call_failed : Type 0) → Option Paths → Option Paths → Type 0
RemovesSiblings path call_failed = ChangesKnown (λ known. log_of path known ∷ (index_of path known ∷ [])) (without_siblings path) call_failed

-- What is at the paths after an opening that failed: what it had begun is removed if the files were opened, and otherwise an empty file.
abbrev pub LeavesUnopened : {F : Type 0} → PathState → List ℕ → Option (Files F) → (call_failed : Type 0) → Option Paths → Option Paths → Type 0
LeavesUnopened before path (Some files) call_failed paths now = Restores before path call_failed paths now
LeavesUnopened before path None call_failed paths now = RemovesEmpty before path call_failed paths now

-- What is at the paths after a close: a leftover is removed, and the log and its index too, but only once it was copied into the file.
abbrev pub LeavesClosed : {F : Type 0} {g : Ghosts F}
    → PathState → List ℕ → StoreAfter F g → (call_failed : Type 0) → Option Paths → Option Paths → Type 0
LeavesClosed before path (after.Closed files) call_failed paths now =
    (between : Option Paths) × Restores before path call_failed paths between × RemovesSiblings path call_failed between now
LeavesClosed before path (after.Left store) call_failed paths now = Restores before path call_failed paths now
LeavesClosed before path _ call_failed paths now = ⊥

-- What is at the paths after the work, by how many calls of the folder had failed before and after it. If no opening was tried, nothing
-- changed. Otherwise the store changed the paths of its office alone, and left `settled`; of this a leftover is removed, unless a call failed
-- that is no opening. The file of work that was done is an office's.
abbrev pub LeavesPaths : {F : Type 0} {g : Ghosts F}
    → Choice → List ℕ → (has_failed : Bool) → StoreAfter F g → (failed now_failed : ℕ) → (paths settled now : Option Paths) → Type 0
LeavesPaths chosen path has_failed after.Untouched failed now_failed paths settled now = (settled ≡ paths) × (now ≡ paths)
LeavesPaths chosen path has_failed (after.Unopened opened) failed now_failed paths settled now =
    (before : PathState) × IfSome paths (IsBefore chosen path before) × ChangesOffice path paths settled
    × LeavesUnopened before path opened (HasRisen (one_more failed) now_failed) settled now
LeavesPaths chosen path has_failed became failed now_failed paths settled now =
    (before : PathState) × IfSome paths (IsBefore chosen path before) × ChangesOffice path paths settled
    × LeavesClosed (if has_failed then before else Bytes) path became (HasRisen failed now_failed) settled now
