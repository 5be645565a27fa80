use Rattle.table.proofs.Rest.{rest_all, word_read}
use Rattle.table.proofs.lines.split_record.Goals as goal

pub returns : goal.returns
returns c = record { line = simp (c.from_le_bytes.ensures, c.from_le_bytes-2.ensures, c.from_le_bytes-3.ensures, c.from_le_bytes-4.ensures, word_read) cc; rest = rest_all 8 c.args.records.now }
