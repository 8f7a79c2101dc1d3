use Rattle.std.proofs.Common.{◌≡◌, ◌∙◌, ◌∷◌, [], inr, refl, subst, sym, Some}
use Rattle.rbac_sets.specs.Stream.{HasRisen}
use Rattle.rbac_sets.proofs.Counting.{one_more-rises}
use Rattle.role_cli.specs.Hosts.{holds_only, paths_in_memory}
use Rattle.role_cli.specs.Paths.{Changes, with_empty}
use Rattle.role_cli.specs.declared.folder.Entry.TheVariants as entry
use Rattle.role_cli.specs.declared.memory_folder.MemoryFolder.{MemoryFolder}
use Rattle.role_cli.proofs.MemoryPaths.{changes_to, replaced_at}
use Rattle.role_cli.proofs.memory_folder.MemoryFolderFolder.make_empty.Goals as goal

pub returns-then-eq-clause-emptied : goal.returns-then-eq-clause-emptied
returns-then-eq-clause-emptied c =
    let path = c.args.path.now in
    let folder = c.args.self.now in
    changes_to path (entry.File 0) _ (paths_in_memory folder) (holds_only folder.path.now (entry.File 0)) (replaced_at path folder.path.now folder.entry (entry.File 0) (sym c.eq.ensures ∙ c.if-eq.true))

-- At any other path nothing can be made.
pub returns-else-eq-clause-emptied : goal.returns-else-eq-clause-emptied
returns-else-eq-clause-emptied c =
    let path = c.args.path.now in
    let folder = c.args.self.now in
    let old = paths_in_memory folder in
    subst (λ (now : MemoryFolder). Changes (path ∷ []) (with_empty path old) (HasRisen folder.failed now.failed) old (Some (paths_in_memory now))) (sym c.fail.ensures)
    (old, refl, (refl, λ other not. refl), inr (one_more-rises folder.failed))
