use Rattle.csv.specs.Records.{fields_of}
use Rattle.role_csv.proofs.ReadRecords.{read-more, read-none}
use Rattle.role_csv.proofs.records.next_record.Goals as goal

pub returns-clause-more : goal.returns-clause-more
returns-clause-more c found text rows has =
    read-more c.args.reader.now c.read_byte_record.new.self (fields_of c.read_byte_record.new.row) text rows has
    (rw found at c.in-Ok.ensures.reads) (c.in-Ok.ensures.ready has.untrimmed) c.in-Ok.ensures.flexible

pub returns-clause-end : goal.returns-clause-end
returns-clause-end c none text rows has =
    read-none c.args.reader.now c.read_byte_record.new.self (fields_of c.read_byte_record.new.row) text rows has (rw none at c.in-Ok.ensures.reads)
