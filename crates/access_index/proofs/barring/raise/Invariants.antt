use Rattle.std.proofs.Common.{◌≡◌, vec_len}
use Rattle.access_index.proofs.LevelLaws.{AreRaised}
use Rattle.access_index.proofs.barring.raise.Given as goal

abbrev pub invariant-loop-level : goal.invariant-loop-level
invariant-loop-level l = (vec_len l.levels ≡ vec_len l.initial.levels) × AreRaised l.levels.items l.initial.levels.items l.row l.level (vec_len l.initial.levels)

abbrev pub decreases-loop-level : goal.decreases-loop-level
decreases-loop-level l = l.level
