use Rattle.std.proofs.Common.{Some, string_bytes}
use Rattle.std.proofs.lemmas.Map.Text.{hash_map_updates_text}
use Rattle.bit_tables.proofs.table.BitTable.put_back.Goals as goal

pub returns-clause-ok : goal.returns-clause-ok
returns-clause-ok c = hash_map_updates_text (string_bytes c.args.key) c.args.self.now.rows c.insert.new.self (Some c.args.numbers) c.in_ok-insert.ensures.updates
