-- What is at the path of an office before the work, and what is removed after it.
use Rattle.std.proofs.Common.{◌≡◌, ◌∙◌, ◌≤◌, ℕ, Bool, true, false, List, [], ◌∷◌, ◌++◌, Option, Some, None, inl, inr, refl, sym, ap, subst, arith}
use Rattle.std.specs.Prelude.{◌||◌, ◌⊎◌, ◌-◌, ◌^◌, IfSome, IsSomeAnd, codes, nat_lt, if◌then◌else◌}
use Rattle.std.specs.List.{list_any}
use Rattle.std.specs.Str.{bytes_eq}
use Rattle.std.proofs.lemmas.Bool.{cases_Bool, ltb-false, true≢false}
use Rattle.std.proofs.lemmas.List.Folds.{list_any-append}
use Rattle.rbac_sets.specs.Stream.{HasRisen, one_more}
use Rattle.rbac_sets.proofs.Counting.{one_more-grows, one_more-most, risen_since}
use Rattle.sqlite_disk.specs.declared.Disk.{Ghosts}
use Rattle.sqlite_disk.specs.declared.Files.{Files}
use Rattle.role_cli.specs.Leftovers.{HasNoPage, IsBefore, IsBegun, LeavesClosed, LeavesPaths, LeavesUnopened, RemovesEmpty, RemovesSiblings, Restores, leftovers, without_leftover, without_siblings}
use Rattle.role_cli.specs.Paths.{Changes, ChangesKnown, ChangesOffice, ChangesOnly, Paths, index_of, length_in, log_of, with_entry, without}
use Rattle.role_cli.specs.declared.choice.Choice.{Choice}
use Rattle.role_cli.specs.declared.folder.Entry.{Entry}
use Rattle.role_cli.specs.declared.folder.Entry.TheVariants as entry
use Rattle.role_cli.specs.declared.leftovers.PathState.{PathState}
use Rattle.role_cli.specs.declared.leftovers.PathState.TheVariants.{Nothing, EmptyFile, Bytes}
use Rattle.role_cli.specs.declared.store_after.StoreAfter.{StoreAfter}
use Rattle.role_cli.specs.declared.store_after.StoreAfter.TheVariants as after

-- ---- counts of calls that failed

-- a count that had risen has not fallen since
pub risen_still : (a b c : ℕ) → b ≤ c → HasRisen a b → HasRisen a c
risen_still a b c up (inl more) = inl (omega (arith, up, more))
risen_still a b c up (inr full) = inr (omega (arith, up, full))

-- one more call keeps the order of two counts, unless the greater one has saturated
one_more-keeps : (a b : ℕ) → a ≤ b → (one_more a ≤ one_more b) ⊎ (2 ^ 64 - 1 ≤ b)
one_more-keeps a b up = elim (cases_Bool (nat_lt b (2 ^ 64 - 1))) [
  | inl below ↦ inl (rw below (omega (arith, up, one_more-most a)))
  | inr most ↦ inr (ltb-false b (2 ^ 64 - 1) most)
]

-- a count that rose after one more call had failed
pub risen_after_one : (a b c : ℕ) → a ≤ b → HasRisen (one_more b) c → HasRisen (one_more a) c
risen_after_one a b c up (inr full) = inr full
risen_after_one a b c up (inl more) = elim (one_more-keeps a b up) [
  | inl still ↦ inl (omega (arith, still, more))
  | inr full ↦ inr (omega (arith, full, one_more-grows b, more))
]

changes_later : (changed : List (List ℕ)) (wanted old : Paths) (f g : Type 0) (now : Option Paths) → (f → g) → Changes changed wanted f old now → Changes changed wanted g old now
changes_later changed wanted old f g now step (new, is, same, inl done) = (new, is, same, inl done)
changes_later changed wanted old f g now step (new, is, same, inr failed) = (new, is, same, inr (step failed))

known_later : (changed : Paths → List (List ℕ)) (wanted : Paths → Paths) (f g : Type 0) (old now : Option Paths) → (f → g) → ChangesKnown changed wanted f old now → ChangesKnown changed wanted g old now
known_later changed wanted f g None now step is = is
known_later changed wanted f g (Some old) now step changes = changes_later (changed old) (wanted old) old f g now step changes

pub restores_later : (before : PathState) (path : List ℕ) (f g : Type 0) (old now : Option Paths) → (f → g) → Restores before path f old now → Restores before path g old now
restores_later before path f g None now step is = is
restores_later before path f g (Some old) now step (inl (has, changes)) = inl (has, changes_later (leftovers before path old) (without_leftover before path old) old f g now step changes)
restores_later before path f g (Some old) now step (inr (same, inl none)) = inr (same, inl none)
restores_later before path f g (Some old) now step (inr (same, inr failed)) = inr (same, inr (step failed))

pub removes_empty_later : (before : PathState) (path : List ℕ) (f g : Type 0) (old now : Option Paths) → (f → g) → RemovesEmpty before path f old now → RemovesEmpty before path g old now
removes_empty_later before path f g None now step is = is
removes_empty_later before path f g (Some old) now step (inl (nothing, empty, changes)) = inl (nothing, empty, changes_later (path ∷ []) (without path old) old f g now step changes)
removes_empty_later before path f g (Some old) now step (inr kept) = inr kept

pub siblings_later : (path : List ℕ) (f g : Type 0) (old now : Option Paths) → (f → g) → RemovesSiblings path f old now → RemovesSiblings path g old now
siblings_later path = known_later (λ known. log_of path known ∷ (index_of path known ∷ [])) (without_siblings path)

pub closed_later : {F : Type 0} {g : Ghosts F} (before : PathState) (path : List ℕ) (became : StoreAfter F g) (e f : Type 0) (old now : Option Paths) → (e → f)
    → LeavesClosed before path became e old now → LeavesClosed before path became f old now
closed_later before path (after.Closed files) e f old now step (between, restores, removes) =
    (between, restores_later before path e f old between step restores, siblings_later path e f between now step removes)
closed_later before path (after.Left store) e f old now step restores = restores_later before path e f old now step restores
closed_later before path after.Untouched e f old now step none = none
closed_later before path (after.Unopened opened) e f old now step none = none

-- an opening and then a close
pub office_then : (path : List ℕ) (old mid now : Option Paths) → ChangesOffice path old mid → ChangesOffice path mid now → ChangesOffice path old now
office_then path None mid now first later = subst (λ m. ChangesOffice path m now) first later
office_then path (Some known) mid now (one, is, (beside, at)) later =
    let (two, is_two, (beside_then, at_then)) = subst (λ m. ChangesOffice path m now) is later in (
      two,
      is_two,
      (
        beside_then ∙ beside,
        λ other not_one. at_then other (ap (λ (b : List ℕ → List ℕ → List ℕ). list_any (bytes_eq other) (path ∷ (b path (codes "-wal") ∷ (b path (codes "-shm") ∷ [])))) beside ∙ not_one) ∙ at other not_one,
      ),
    )

-- what was removed after an opening that failed
pub unopened_left : {F : Type 0} (opened : Option (Files F)) (before : PathState) (path : List ℕ) (first mid last : ℕ) (settled now : Option Paths) → first ≤ mid
    → LeavesUnopened before path opened (HasRisen (one_more mid) last) settled now → LeavesUnopened before path opened (HasRisen (one_more first) last) settled now
unopened_left (Some files) before path first mid last settled now up restores =
    restores_later before path (HasRisen (one_more mid) last) (HasRisen (one_more first) last) settled now (risen_after_one first mid last up) restores
unopened_left None before path first mid last settled now up removes =
    removes_empty_later before path (HasRisen (one_more mid) last) (HasRisen (one_more first) last) settled now (risen_after_one first mid last up) removes

-- what was removed after a close
module _ {F : Type 0} {g : Ghosts F} (chosen : Choice) (path : List ℕ) (has_failed : Bool) (before restored : PathState) (first mid last : ℕ) (old settled now : Option Paths)
    (was : IfSome old (IsBefore chosen path before)) (is : restored ≡ (if has_failed then before else Bytes)) (touched : ChangesOffice path old settled) (up : first ≤ mid) where
  closed_then : (became : StoreAfter F g) → LeavesClosed restored path became (HasRisen mid last) settled now → LeavesClosed (if has_failed then before else Bytes) path became (HasRisen first last) settled now
  closed_then became leaves = closed_later (if has_failed then before else Bytes) path became (HasRisen mid last) (HasRisen first last) settled now (risen_since first mid last up)
      (subst (λ r. LeavesClosed r path became (HasRisen mid last) settled now) is leaves)

  pub closed_left : (became : StoreAfter F g) → LeavesClosed restored path became (HasRisen mid last) settled now → LeavesPaths chosen path has_failed became first last old settled now
  closed_left after.Untouched leaves = absurd leaves
  closed_left (after.Unopened opened) leaves = absurd leaves
  closed_left (after.Closed files) leaves = (before, was, touched, closed_then (after.Closed files) leaves)
  closed_left (after.Left store) leaves = (before, was, touched, closed_then (after.Left store) leaves)

-- ---- one change after another

pub or_false : (a b : Bool) → (a || b) ≡ false → (a ≡ false) × (b ≡ false)
or_false true b is = absurd (true≢false is)
or_false false b is = (refl, is)

-- what is at other paths than these was changed by neither
changes_then : (one two : List (List ℕ)) (old mid wanted : Paths) (change : Paths → Paths) (e f g : Type 0) (now : Option Paths)
    → ChangesOnly one old mid → (mid ≡ wanted) ⊎ e → Changes two (change mid) f mid now → (e → g) → (f → g) → Changes (one ++ two) (change wanted) g old now
changes_then one two old mid wanted change e f g now (beside, at) first (new, is, (beside_then, at_then), second) step step_then = (
  new,
  is,
  (
    beside_then ∙ beside,
    λ path other. (let (not_one, not_two) = or_false (list_any (bytes_eq path) one) (list_any (bytes_eq path) two) (sym (list_any-append (bytes_eq path) one two) ∙ other) in
        at_then path not_two ∙ at path not_one),
  ),
  ended first second,
)
  where
    ended : (mid ≡ wanted) ⊎ e → (new ≡ change mid) ⊎ f → (new ≡ change wanted) ⊎ g
    ended (inl made) (inl changed) = inl (changed ∙ ap change made)
    ended (inl made) (inr failed) = inr (step_then failed)
    ended (inr failed) changed = inr (step failed)

-- ---- the log and its index

-- one of them, at a path that the changes so far have left as it was
one_beside : (path ending : List ℕ) (old mid : Paths) (f : Type 0) (now : Option Paths) → mid.beside ≡ old.beside
    → Changes (mid.beside path ending ∷ []) (without (mid.beside path ending) mid) f mid now → Changes (old.beside path ending ∷ []) (without (old.beside path ending) mid) f mid now
one_beside path ending old mid f now same =
    subst (λ (beside : List ℕ → List ℕ → List ℕ). Changes (beside path ending ∷ []) (without (beside path ending) mid) f mid now) same

both_beside : (path : List ℕ) (e f g : Type 0) (old : Paths) (mid now : Option Paths)
    → Changes (log_of path old ∷ []) (without (log_of path old) old) e old mid
    → ChangesKnown (λ known. index_of path known ∷ []) (λ known. without (index_of path known) known) f mid now → (e → g) → (f → g)
    → Changes (log_of path old ∷ (index_of path old ∷ [])) (without_siblings path old) g old now
both_beside path e f g old mid now (new, is, same, done) later step step_then =
    let then_it : Changes (index_of path new ∷ []) (without (index_of path new) new) f new now =
    subst (λ m. ChangesKnown (λ known. index_of path known ∷ []) (λ known. without (index_of path known) known) f m now) is later in
    changes_then (log_of path old ∷ []) (index_of path old ∷ []) old new (without (log_of path old) old) (without (index_of path old)) e f g now same done
    (one_beside path (codes "-shm") old new f now same.0 then_it) step step_then

-- the log was removed, and then its index
pub siblings_removed : (path : List ℕ) (e f g : Type 0) (old mid now : Option Paths)
    → ChangesKnown (λ known. log_of path known ∷ []) (λ known. without (log_of path known) known) e old mid
    → ChangesKnown (λ known. index_of path known ∷ []) (λ known. without (index_of path known) known) f mid now → (e → g) → (f → g) → RemovesSiblings path g old now
siblings_removed path e f g None mid now is later step step_then =
    subst (λ m. ChangesKnown (λ known. index_of path known ∷ []) (λ known. without (index_of path known) known) f m now) is later
siblings_removed path e f g (Some old) mid now first later step step_then = both_beside path e f g old mid now first later step step_then

-- the file of a name was removed, which is that of the ending beside the path
pub beside_removed : (path ending name : List ℕ) (f : Type 0) (old now : Option Paths) → IfSome old (λ known. name ≡ known.beside path ending)
    → ChangesKnown (λ _. name ∷ []) (without name) f old now → ChangesKnown (λ known. known.beside path ending ∷ []) (λ known. without (known.beside path ending) known) f old now
beside_removed path ending name f None now named = λ is. is
beside_removed path ending name f (Some old) now named = subst (λ path. Changes (path ∷ []) (without path old) f old now) named

-- nothing was removed, since a call failed
pub beside_kept : (path ending : List ℕ) (f : Type 0) (old now : Option Paths) → now ≡ old → f
    → ChangesKnown (λ known. known.beside path ending ∷ []) (λ known. without (known.beside path ending) known) f old now
beside_kept path ending f None now same failed = same
beside_kept path ending f (Some old) now same failed = (old, same, (refl, λ path other. refl), inr failed)

-- ---- a leftover

-- the lengths of the file and of its log
abbrev HasLengths : List ℕ → (file log : Option ℕ) → Option Paths → Type 0
HasLengths path file log paths = IfSome paths (λ known. (file ≡ length_in (known.at path)) × (log ≡ length_in (known.at (log_of path known))))

pub none_left : (before : PathState) (path : List ℕ) (file log : Option ℕ) (f : Type 0) (paths : Option Paths) → HasLengths path file log paths
    → ¬ ((before ≡ Bytes) × IsSomeAnd log HasNoPage) → ¬ ((before ≡ EmptyFile) × IsBegun file log) → ¬ ((before ≡ Nothing) × IsBegun file log) → Restores before path f paths paths
none_left before path file log f None lengths no_log no_content no_file = refl
none_left Bytes path file log f (Some known) (file_is, log_is) no_log no_content no_file =
    inr (refl, inl (λ has. no_log (refl, subst (λ log. IsSomeAnd log HasNoPage) (sym log_is) has)))
none_left EmptyFile path file log f (Some known) (file_is, log_is) no_log no_content no_file =
    inr (refl, inl (λ has. no_content (refl, subst (λ f. IsBegun f log) (sym file_is) (subst (IsBegun (length_in (known.at path))) (sym log_is) has))))
none_left Nothing path file log f (Some known) (file_is, log_is) no_log no_content no_file =
    inr (refl, inl (λ has. no_file (refl, subst (λ f. IsBegun f log) (sym file_is) (subst (IsBegun (length_in (known.at path))) (sym log_is) has))))

-- it was not looked for, since a call failed
pub not_looked : (before : PathState) (path : List ℕ) (f : Type 0) (old now : Option Paths) → now ≡ old → f → Restores before path f old now
not_looked before path f None now same failed = same
not_looked before path f (Some known) now same failed = inr (same, inr failed)

pub log_removed : (path : List ℕ) (file log : Option ℕ) (name : List ℕ) (f : Type 0) (old now : Option Paths) → HasLengths path file log old
    → IfSome old (λ known. name ≡ log_of path known) → IsSomeAnd log HasNoPage → ChangesKnown (λ _. name ∷ []) (without name) f old now → Restores Bytes path f old now
log_removed path file log name f None now lengths named short is = is
log_removed path file log name f (Some known) now (file_is, log_is) named short changes =
    inl (subst (λ log. IsSomeAnd log HasNoPage) log_is short, subst (λ path. Changes (path ∷ []) (without path known) f known now) named changes)

begun : (file log file_is log_is : Option ℕ) → file ≡ file_is → log ≡ log_is → IsBegun file log → IsBegun file_is log_is
begun file log file_is log_is same_file same_log is = subst (IsBegun file_is) same_log (subst (λ f. IsBegun f log) same_file is)

-- the log and its index were removed, and then the path leads to this
all_changed : (path : List ℕ) (it : Entry) (e f g : Type 0) (old : Paths) (mid now : Option Paths)
    → Changes (log_of path old ∷ (index_of path old ∷ [])) (without_siblings path old) e old mid → ChangesKnown (λ _. path ∷ []) (with_entry path it) f mid now → (e → g) → (f → g)
    → Changes (log_of path old ∷ (index_of path old ∷ (path ∷ []))) (with_entry path it (without_siblings path old)) g old now
all_changed path it e f g old mid now (new, is, same, done) later step step_then =
    let then_it : Changes (path ∷ []) (with_entry path it new) f new now = subst (λ m. ChangesKnown (λ _. path ∷ []) (with_entry path it) f m now) is later in
    changes_then (log_of path old ∷ (index_of path old ∷ [])) (path ∷ []) old new (without_siblings path old) (with_entry path it) e f g now same done then_it step step_then

pub content_removed : (path : List ℕ) (file log : Option ℕ) (e f g : Type 0) (old mid now : Option Paths) → HasLengths path file log old → IsBegun file log
    → RemovesSiblings path e old mid → ChangesKnown (λ _. path ∷ []) (with_entry path (entry.File 0)) f mid now → (e → g) → (f → g) → Restores EmptyFile path g old now
content_removed path file log e f g None mid now lengths is first later step step_then = subst (λ m. ChangesKnown (λ _. path ∷ []) (with_entry path (entry.File 0)) f m now) first later
content_removed path file log e f g (Some known) mid now (file_is, log_is) is first later step step_then =
    inl (begun file log _ _ file_is log_is is, all_changed path (entry.File 0) e f g known mid now first later step step_then)

pub file_removed : (path : List ℕ) (file log : Option ℕ) (e f g : Type 0) (old mid now : Option Paths) → HasLengths path file log old → IsBegun file log
    → RemovesSiblings path e old mid → ChangesKnown (λ _. path ∷ []) (without path) f mid now → (e → g) → (f → g) → Restores Nothing path g old now
file_removed path file log e f g None mid now lengths is first later step step_then = subst (λ m. ChangesKnown (λ _. path ∷ []) (without path) f m now) first later
file_removed path file log e f g (Some known) mid now (file_is, log_is) is first later step step_then =
    inl (begun file log _ _ file_is log_is is, all_changed path entry.Nothing e f g known mid now first later step step_then)

-- the entries at the path and at its log have these lengths
pub lengths_of : (path name : List ℕ) (file_entry log_entry : Entry) (file log : Option ℕ) (paths : Option Paths) → IfSome paths (λ known. file_entry ≡ known.at path)
    → IfSome paths (λ known. log_entry ≡ known.at name) → IfSome paths (λ known. name ≡ log_of path known) → file ≡ length_in file_entry → log ≡ length_in log_entry → HasLengths path file log paths
lengths_of path name file_entry log_entry file log None file_at log_at named file_is log_is = tt
lengths_of path name file_entry log_entry file log (Some known) file_at log_at named file_is log_is =
    (file_is ∙ ap length_in file_at, log_is ∙ ap length_in (log_at ∙ ap known.at named))

-- ---- what `restore` has done

module _ (path : List ℕ) (file log : Option ℕ) (first looked between last : ℕ) (old looked_at mid now : Option Paths) (same : looked_at ≡ old) (up : first ≤ looked) (up_then : looked ≤ between) (up_last : between ≤ last)
    (lengths : HasLengths path file log old) (removed : RemovesSiblings path (HasRisen looked between) looked_at mid) where
  removed_first : RemovesSiblings path (HasRisen looked between) old mid
  removed_first = subst (λ p. RemovesSiblings path (HasRisen looked between) p mid) same removed

  still : HasRisen looked between → HasRisen first last
  still risen = risen_since first looked last up (risen_still looked between last up_last risen)

  since : HasRisen between last → HasRisen first last
  since risen = risen_since first between last (omega (arith, up, up_then)) risen

  pub file_restored : (before : PathState) → (before ≡ Nothing) × IsBegun file log → ChangesKnown (λ _. path ∷ []) (without path) (HasRisen between last) mid now → Restores before path (HasRisen first last) old now
  file_restored before (is, begun) gone = subst (λ b. Restores b path (HasRisen first last) old now) (sym is)
      (file_removed path file log (HasRisen looked between) (HasRisen between last) (HasRisen first last) old mid now lengths begun removed_first gone still since)

  pub content_restored : (before : PathState) → (before ≡ EmptyFile) × IsBegun file log → ChangesKnown (λ _. path ∷ []) (with_entry path (entry.File 0)) (HasRisen between last) mid now → Restores before path (HasRisen first last) old now
  content_restored before (is, begun) emptied = subst (λ b. Restores b path (HasRisen first last) old now) (sym is)
      (content_removed path file log (HasRisen looked between) (HasRisen between last) (HasRisen first last) old mid now lengths begun removed_first emptied still since)
