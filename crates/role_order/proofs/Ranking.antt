-- How many members sets have.
use Rattle.std.proofs.Common.{◌≡◌, ◌+◌, ◌∙◌, ap, false}
use Rattle.std.specs.Prelude.{cond}
use Rattle.std.specs.FinMap as finmap
use Rattle.rbac_sets.specs.Sets.{Bytes, Names, contains, insert, len}
use Rattle.rbac_sets.specs.NameOrder.{name_total}

-- a new member makes a set larger by one
pub len-new : (s : Names) (x : Bytes) → contains s x ≡ false → len (insert s x) ≡ len s + 1
unfolding len insert contains
len-new s x new = finmap.len-insert name_total s x tt ∙ ap (λ b. cond b (finmap.len s) (finmap.len s + 1)) new
