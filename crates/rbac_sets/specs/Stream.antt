-- The state of sources and sinks of bytes, and what calls change of it.
use Rattle.std.specs.Prelude.{ℕ, ◌+◌, ◌-◌, ◌^◌, ◌<◌, ◌⊎◌, ◌≤◌, ◌&&◌, nat_eq, nat_lt, List, Result, Ok, Err, is_ok, if◌then◌else◌}
use Rattle.rbac_sets.specs.declared.source.MemorySource.{MemorySource}
use Rattle.rbac_sets.specs.declared.source.Reader.{Reader}
use Rattle.rbac_sets.specs.declared.sink.MemorySink.{MemorySink}
use Rattle.rbac_sets.specs.declared.sink.Writer.{Writer}

-- the count of calls after one more; it saturates
abbrev pub one_more : ℕ → ℕ
one_more calls = if nat_lt calls (2 ^ 64 - 1) then calls + 1 else calls

-- the count of failed calls after a call with this result
abbrev pub failures_after : {X E : Type 0} → ℕ → Result X E → ℕ
failures_after failures result = if is_ok result then failures else one_more failures

-- the count of the writes that accepted no byte of a nonempty piece, after a write of a piece of this size with this result
abbrev pub idle_after : {E : Type 0} → ℕ → ℕ → Result ℕ E → ℕ
idle_after idle size (Ok count) = if nat_lt 0 size && nat_eq count 0 then one_more idle else idle
idle_after idle size (Err e) = idle

-- a count rose from the first value to the second, or has saturated
abbrev pub HasRisen : ℕ → ℕ → Type 0
HasRisen before now = (before < now) ⊎ (2 ^ 64 - 1 ≤ now)

-- the remaining bytes
abbrev pub left_in_memory : MemorySource → List ℕ
left_in_memory source = source.bytes.now

-- the bytes that were written
abbrev pub written_in_memory : MemorySink → List ℕ
written_in_memory sink = sink.bytes.items

-- how many writes failed
abbrev pub failed_in_memory : MemorySink → ℕ
failed_in_memory sink = sink.failures

-- the number of its reads
abbrev pub reads_of_memory : MemorySource → ℕ
reads_of_memory source = source.reads

-- the reader of a source, the number of reads of it, and how many of these failed
abbrev pub reader_of : {R : Type 0} → Reader R → R
reader_of source = source.inner

abbrev pub reads_of_reader : {R : Type 0} → Reader R → ℕ
reads_of_reader source = source.reads

abbrev pub failed_reads : {R : Type 0} → Reader R → ℕ
failed_reads source = source.failures

-- the writer of a sink, and how many of its writes failed
abbrev pub writer_of : {W : Type 0} → Writer W → W
writer_of sink = sink.inner

abbrev pub failed_writes : {W : Type 0} → Writer W → ℕ
failed_writes sink = sink.failures
