use Rattle.std.proofs.Common.{rules, ◌≡◌, ◌+◌, ◌<◌, ◌≤◌, length, true, sym, subst}
use Rattle.std.specs.Prelude.{IfOk, Some, None, if◌then◌else◌, take}
use Rattle.std.specs.Str.{bytes_eq}
use Rattle.rbac_sets.specs.Stream.{left_in_memory}
use Rattle.role_csv.specs.Assignments.{most_bytes}
use Rattle.role_cli.specs.Environment.{IsReadOf}
use Rattle.role_cli.proofs.CsvText.{reads_start}
use Rattle.role_cli.proofs.Results.{if_ok-three}
use Rattle.role_cli.proofs.memory_host.MemoryHostCsvFiles.read_csv.Goals as goal

-- What was read of the text at this path is its beginning, or all of it.
pub returns-clause-text : goal.returns-clause-text
returns-clause-text c =
    let same : bytes_eq c.args.path.now c.args.self.now.path.now ≡ true = search rules in
    subst (λ b. IfOk c.read_bytes.result (λ bytes. IsReadOf (if b then Some (c.args.self.now.text.now) else None) bytes.items)) (sym same)
    (if_ok-three c.read_bytes.result _ _ _ _ c.read_bytes.ensures.reads c.read_bytes.ensures.within c.read_bytes.ensures.end (λ bytes consumes within ends.
    subst (λ text. bytes.items ≡ take (most_bytes + 1) text) c.new.ensures.bytes
    (reads_start (left_in_memory c.new.result) bytes.items (left_in_memory c.read_bytes.new.source) (most_bytes + 1) consumes
    (subst (λ most. length bytes.items ≤ most) c.longest_read.ensures within)
    (λ short. ends (subst (λ most. length bytes.items < most) (sym c.longest_read.ensures) short)))))
