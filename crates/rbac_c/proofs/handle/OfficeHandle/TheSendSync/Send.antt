-- A handle may go to another thread: what it owns says the same to every thread.
use mir.Raw.{raw}
use base.Fraction.{full_share}
use base.Shift.{Keyless}
use denote.Memory.{lone}
use denote.Param.Send.{IsSend, part_keyless}
use denote.RawPtr.{Ptr, block_ptr, null_ptr}
use Rattle.libc.specs.Heap.{chunk-Keyless}
use Rattle.std.specs.declared.option.Option.{Option}
use Rattle.std.specs.declared.option.Option.TheVariants.{None, Some}
use Rattle.role_lines.specs.contracts.office.MemoryOffice as office
use Rattle.role_lines.proofs.office.MemoryOffice.TheSendSync as crossing
use Rattle.rbac_c.specs.Held.{holds}
use Rattle.rbac_c.specs.contracts.handle.OfficeHandle.{the_row}

held_keyless : (p : Ptr) (k : Option office.the_row.Denot) → Keyless (holds office.the_row p k)
held_keyless p None = tt
held_keyless null_ptr (Some x) = (tt, chunk-Keyless (raw (lone office.the_row.mir)) null_ptr)
held_keyless (block_ptr b o) (Some x) = (part_keyless office.the_row crossing.the_send full_share x b o, chunk-Keyless (raw (lone office.the_row.mir)) (block_ptr b o))

pub send : IsSend the_row
send = record { owned = λ d vs. ((λ vss. (tt, (tt, tt))), held_keyless d.at d.office); leaving = λ k d w. tt }
