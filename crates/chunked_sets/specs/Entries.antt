-- What an iterator over entries in chunks has left.
use Rattle.std.specs.Prelude.{List, ◌++◌}
use Rattle.chunked_sets.specs.declared.entries.Entries.{Entries}
use Rattle.chunked_sets.specs.Chunks.{entries_of}

-- the entries that are still to come
abbrev pub entries_left : {K : Type 0} → Entries K → List K
entries_left e = e.chunk.now ++ (entries_of e.chunks.now ++ e.last.now)
