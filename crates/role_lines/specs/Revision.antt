-- The revision of an office in memory: how many commands it has accepted.
use Rattle.std.specs.Prelude.{ℕ, ◌+◌, List, Result, Ok, Err, is_none, nat_lt, if◌then◌else◌}
use Rattle.rbac_sets.specs.declared.refusal.Refusal.{Refusal}
use Rattle.admin_mgr.specs.RbacState.{RbacState}
use Rattle.admin_mgr.specs.CommandContent.{content_verdict}
use Rattle.role_json.specs.Request.{request}
use Rattle.role_json.specs.RequestContent.{RequestContent, Change, Ask}

-- the greatest number of 64 bits
abbrev pub last_revision : ℕ
last_revision = 18446744073709551615

-- one more, unless it is the last
abbrev pub next_revision : ℕ → ℕ
next_revision n = if nat_lt n last_revision then n + 1 else n

-- the revision after a request in this state
unfoldable pub revision_after : RbacState → RequestContent → ℕ → ℕ
revision_after S (Change asked) n = if is_none (content_verdict S asked) then next_revision n else n
revision_after S (Ask query) n = n

-- the revision after the result of reading a text
abbrev pub revision_after_reading : RbacState → Result RequestContent Refusal → ℕ → ℕ
revision_after_reading S (Ok requested) n = revision_after S requested n
revision_after_reading S (Err refusal) n = n

-- the revision after a line
unfoldable pub revision_after_line : RbacState → List ℕ → ℕ → ℕ
revision_after_line S line n = revision_after_reading S (request line) n
