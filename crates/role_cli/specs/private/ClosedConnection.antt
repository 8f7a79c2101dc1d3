-- What a close made of a connection. The definition in this file is used only in private contracts.
use Rattle.sqlite.specs.Closing.{IsCopied}
use Rattle.sqlite.specs.Held.{Held}
use Rattle.sqlite.specs.WalReads.{AreClean}
use Rattle.sqlite_disk.specs.declared.Disk.{Ghosts}
use Rattle.sqlite_store.specs.declared.store.FileStore.{FileStore}
use Rattle.role_cli.specs.FileWork.{LeavesLog}
use Rattle.role_cli.specs.declared.store_after.StoreAfter.{StoreAfter}
use Rattle.role_cli.specs.declared.store_after.StoreAfter.TheVariants as after

-- the files, into which the log was copied, or the store, which keeps it
abbrev pub ClosesConnection : {D : Type 0} (g : Ghosts D) → Held (FileStore D g) → StoreAfter D g → Type 0
ClosesConnection g conn (after.Closed files) = AreClean g files.log files.db → IsCopied conn files
ClosesConnection g conn (after.Left store) = LeavesLog g store conn
ClosesConnection g conn _ = ⊥
