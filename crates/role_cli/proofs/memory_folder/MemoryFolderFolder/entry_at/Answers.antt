use Rattle.std.proofs.Common.{◌∙◌, refl, sym}
use Rattle.role_cli.proofs.memory_folder.MemoryFolderFolder.entry_at.Goals as goal

pub returns-then-eq : goal.returns-then-eq
returns-then-eq c = rw (sym c.eq.ensures ∙ c.if-eq.true) refl

pub returns-else-eq : goal.returns-else-eq
returns-else-eq c = rw (sym c.eq.ensures ∙ c.if-eq.false) refl
