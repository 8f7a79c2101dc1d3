use Rattle.std.proofs.Common.{◌≡◌, ℕ, List, Option, refl, sym, subst}
use Rattle.std.specs.Prelude.{IfSome}
use Rattle.role_cli.specs.Paths.{Paths, log_of}
use Rattle.role_cli.proofs.PathChanges.{file_restored, lengths_of}
use Rattle.role_cli.proofs.leftovers.restore.Goals as goal

-- Where nothing was is nothing again.
pub returns-clause-restored : goal.returns-clause-restored
returns-clause-restored g c =
    let path : List ℕ = c.args.path.now in
    let name : List ℕ = c.as_str.result.now in
    let old : Option Paths = g.F.Folder.paths c.args.folder.now in
    let named : IfSome old (λ known. name ≡ log_of path known) = subst (λ n. IfSome old (λ known. n ≡ log_of path known)) (sym c.as_str.ensures.value) c.in-Ok.ensures.named in
    let file_at = subst (λ p. IfSome p (λ known. c.entry_at.result ≡ known.at path)) c.beside.ensures.same c.entry_at.ensures in
    let log_at = subst (λ p. IfSome p (λ known. c.entry_at-2.result ≡ known.at name)) c.beside.ensures.same c.entry_at-2.ensures in
    let lengths = lengths_of path name c.entry_at.result c.entry_at-2.result c.length_of-file.result c.length_of.result old file_at log_at named c.length_of-file.ensures c.length_of.ensures in
    file_restored path c.length_of-file.result c.length_of.result (g.F.Folder.failed_calls c.args.folder.now) (g.F.Folder.failed_calls c.beside.new.self) (g.F.Folder.failed_calls c.remove_siblings-in-File.new.folder)
    (g.F.Folder.failed_calls c.remove-in-File.new.self) old (g.F.Folder.paths c.beside.new.self) (g.F.Folder.paths c.remove_siblings-in-File.new.folder) (g.F.Folder.paths c.remove-in-File.new.self)
    c.beside.ensures.same c.beside.ensures.count c.remove_siblings-in-File.ensures.count c.remove-in-File.ensures.count lengths c.remove_siblings-in-File.ensures.removed c.args.before (c.in-File.ensures.file.0 refl) c.remove-in-File.ensures.removed
