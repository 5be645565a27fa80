use Rattle.std.proofs.Common.{arith}
use Rattle.shapes.proofs.Tables.{tabled_more}
use Rattle.shapes.proofs.rows.Rows.draw.Goals as goal

pub returns : goal.returns
returns c =
    tabled_more c.args.self.now.rows c.mark.new.row c.args.self.now.count c.args.from.number c.args.to.number (omega arith)
    c.mark.ensures
