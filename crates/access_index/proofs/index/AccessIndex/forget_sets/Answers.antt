use Rattle.std.proofs.Common.{string_bytes, ap, refl}
use Rattle.std.specs.Str.{bytes_eq}
use Rattle.std.specs.Map.{lookup}
use Rattle.bit_tables.proofs.ByName.{no_entries}
use Rattle.access_index.proofs.index.AccessIndex.forget_sets.Goals as goal

pub returns-else-not-is_empty-clause-none : goal.returns-else-not-is_empty-clause-none
returns-else-not-is_empty-clause-none c set = ap (lookup (λ k. bytes_eq set (string_bytes k))) (no_entries _ (c.if-not-is_empty.ensures.0 refl))
