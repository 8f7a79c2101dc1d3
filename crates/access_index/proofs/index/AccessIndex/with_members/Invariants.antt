use Rattle.std.proofs.Common.{◌≡◌, ◌-◌, length, take}
use Rattle.access_index.proofs.LevelLaws.{Count}
use Rattle.access_index.proofs.index.AccessIndex.with_members.Given as goal

abbrev pub invariant-loop-member : goal.invariant-loop-member
invariant-loop-member l = (l.counted ≡ l.member-index) × Count l.self l.levels.items l.count (length l.members - l.member-index) (take l.member-index l.members)
