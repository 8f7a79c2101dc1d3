use Rattle.std.proofs.Common.{◌∙◌, refl, sym, inr}
use Rattle.csv.specs.Reading.{Reached}
use Rattle.role_csv.proofs.records.reader_of.Goals as goal

pub returns : goal.returns
unfolding Reached
returns c =
    let reader = c.from_reader.ensures in
    record {
      untrimmed = reader.trim ∙ rw (c.flexible.ensures, c.has_headers.ensures) c.new.ensures.trim;
      flexible = reader.flexible ∙ rw c.flexible.ensures refl;
      ready = inr (inr (reader.has_headers ∙ rw (c.flexible.ensures, c.has_headers.ensures) refl, reader.headers));
      config = reader.config ∙ rw (c.flexible.ensures, c.has_headers.ensures) c.new.ensures.config;
      left = _;
      source = reader.source;
      reached = (sym reader.state, refl);
    }
