use Rattle.std.proofs.Common.{◌+◌, ◌≤◌}
use Rattle.bench_ledger.proofs.fill_and_ask.Given as goal

abbrev pub invariant-loop-number : goal.invariant-loop-number
invariant-loop-number g l =
    record { ready : g.L.Ledger.valid l.ledger; added : l.counts.appended + l.counts.known + l.counts.refused ≤ l.number; asked : l.counts.held + l.counts.missing ≤ 0 }

abbrev pub invariant-loop-number-2 : goal.invariant-loop-number-2
invariant-loop-number-2 g l = record { ready : g.L.Ledger.valid l.ledger; asked : l.counts.held + l.counts.missing ≤ l.number }
