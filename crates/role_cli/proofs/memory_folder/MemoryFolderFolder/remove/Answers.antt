use Rattle.std.proofs.Common.{◌∙◌, sym}
use Rattle.role_cli.specs.Hosts.{holds_only, paths_in_memory}
use Rattle.role_cli.specs.declared.folder.Entry.TheVariants as entry
use Rattle.role_cli.proofs.MemoryPaths.{changes_to, removed_elsewhere, replaced_at}
use Rattle.role_cli.proofs.memory_folder.MemoryFolderFolder.remove.Goals as goal

-- The path of the folder leads to nothing now.
pub returns-then-eq-clause-removed : goal.returns-then-eq-clause-removed
returns-then-eq-clause-removed c =
    let path = c.args.path.now in
    let folder = c.args.self.now in
    changes_to path entry.Nothing _ (paths_in_memory folder) (holds_only folder.path.now entry.Nothing) (replaced_at path folder.path.now folder.entry entry.Nothing (sym c.eq.ensures ∙ c.if-eq.true))

-- At any other path there was nothing.
pub returns-else-eq-clause-removed : goal.returns-else-eq-clause-removed
returns-else-eq-clause-removed c =
    let path = c.args.path.now in
    let folder = c.args.self.now in
    changes_to path entry.Nothing _ (paths_in_memory folder) (paths_in_memory folder) (removed_elsewhere path folder.path.now folder.entry (sym c.eq.ensures ∙ c.if-eq.false))
