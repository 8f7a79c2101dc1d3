use Rattle.std.proofs.Common.{◌≡◌, ◌++◌, ℕ, List, Some, false}
use Rattle.csv.specs.Writing.{default_writer, fields_written, has_written, text_written, writer_setup}
use Rattle.chunked_sets.specs.Entries.{entries_left}
use Rattle.role_csv.specs.Export.{export, lines_of}
use Rattle.role_csv.proofs.writing.export_text.Given as goal

abbrev pub invariant-loop-pair : goal.invariant-loop-pair
invariant-loop-pair l = record {
  ended : fields_written l.writer ≡ 0;
  clean : has_written l.writer ≡ false;
  plain : writer_setup l.writer ≡ default_writer;
  text : (t : List ℕ) × (text_written (λ v. Some v.items) l.writer ≡ Some t) × (t ++ lines_of (entries_left l.pair-iterator) ≡ export l.pairs);
}
