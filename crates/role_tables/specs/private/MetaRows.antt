-- What is kept of the rows of meta_row as they are read.
use Rattle.std.specs.Prelude.{◌≡◌, ◌||◌, ◌&&◌, ℤ, false, List, length, Option, Some, None, IsTrue, nat_eq, if◌then◌else◌}
use Rattle.std.specs.List.{list_any, list_all}
use Rattle.std.specs.Int.Signed.{lt_z}
use Rattle.sqlite.specs.Order as sql
use Rattle.sqlite.specs.State.{State, IsUnchanged}
use Rattle.role_tables.specs.OfficeTables.{Meta}
use Rattle.role_tables.specs.TableContents.{is_well_typed, contents_of}
use Rattle.role_tables.specs.OpeningChecks.{values, is_tagged, version_at, listed, versions, is_number, is_known_version, IsLeastUnknown, is_single}
use Rattle.role_tables.specs.declared.meta_rows.Metas.{Metas}

-- the least number so far that is no known version, if there is one
abbrev pub IsUnknownOf : List ℤ → Option ℤ → Type 0
IsUnknownOf numbers None = IsTrue (list_all is_known_version numbers)
IsUnknownOf numbers (Some n) = IsLeastUnknown numbers n

-- with one number more
abbrev pub lesser : Option ℤ → Option ℤ → Option ℤ
lesser least None = least
lesser None (Some n) = if is_known_version n then None else Some n
lesser (Some m) (Some n) = if is_known_version n then Some m else if lt_z n m then Some n else Some m

-- with one row more
pub record SeesMore (row : sql.Row) (old new : Metas) : Type 0 where
  pub tagged : new.is_tagged ≡ (old.is_tagged || is_tagged row)
  pub unknown : new.unknown ≡ lesser old.unknown (version_at row)
  pub second : new.has_version_2 ≡ (old.has_version_2 || list_any (is_number 2) (listed (version_at row)))
  pub whole : new.is_well_typed ≡ (old.is_well_typed && is_well_typed Meta row)
  pub one : new.is_one ≡ old.is_empty
  pub empty : new.is_empty ≡ false

-- what is kept of these rows
pub record Sees (shown : List sql.Row) (metas : Metas) : Type 0 where
  pub tagged : metas.is_tagged ≡ list_any is_tagged shown
  pub unknown : IsUnknownOf (versions shown) metas.unknown
  pub second : metas.has_version_2 ≡ list_any (is_number 2) (versions shown)
  pub whole : metas.is_well_typed ≡ list_all (is_well_typed Meta) shown
  pub one : metas.is_one ≡ is_single shown
  pub empty : metas.is_empty ≡ nat_eq (length shown) 0

-- the rows of meta_row were read, and nothing was changed
abbrev pub SeesMetas : State → State → Metas → Type 0
SeesMetas old new metas = Sees (values (contents_of old.now) Meta) metas × IsUnchanged old new
