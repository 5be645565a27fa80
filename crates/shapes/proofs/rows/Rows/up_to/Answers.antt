use Rattle.std.proofs.Common.{◌+◌}
use Rattle.shapes.proofs.Tables.{tabled_none}
use Rattle.shapes.proofs.rows.Rows.up_to.Goals as goal

pub returns : goal.returns
returns c = tabled_none 48 48 (c.args.last.number + 1)
