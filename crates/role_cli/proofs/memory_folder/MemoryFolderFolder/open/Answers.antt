use Rattle.std.proofs.Common.{◌∙◌, Some, ap, subst}
use Rattle.role_cli.specs.Hosts.{holds_only, paths_in_memory}
use Rattle.role_cli.specs.Paths.{ChangesOffice}
use Rattle.role_cli.proofs.MemoryPaths.{opened_in_memory, opened_where}
use Rattle.role_cli.proofs.memory_folder.MemoryFolderFolder.open.Goals as goal

pub returns-clause-at : goal.returns-clause-at
returns-clause-at g c = opened_where c.eq-self.result c.args.path.now c.fail.new.self.path.now c.eq-self.ensures

pub returns-clause-touched : goal.returns-clause-touched
returns-clause-touched g c =
    let path = c.args.path.now in
    let here = c.fail.new.self.path.now in
    let it = c.entry_after-self.result in
    subst (λ old. ChangesOffice path (Some old) (Some (holds_only here it))) (ap paths_in_memory c.fail.ensures)
    (opened_in_memory path here c.fail.new.self.entry it (λ differ. c.entry_after-self.ensures.elsewhere (c.eq-self.ensures ∙ differ)))
