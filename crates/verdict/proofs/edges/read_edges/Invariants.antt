use Rattle.std.proofs.Common.{take}
use Rattle.verdict.proofs.Drawing.{Drawn}
use Rattle.verdict.proofs.edges.read_edges.Given as goal

abbrev pub invariant-loop-k : goal.invariant-loop-k
invariant-loop-k g l = Drawn l.initial.rows.count (take l.k (g.L.Ledger.entries l.ledger)) l.rows
