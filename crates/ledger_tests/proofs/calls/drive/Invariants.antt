use Rattle.ledger_tests.proofs.calls.drive.Given as goal

abbrev pub invariant-loop : goal.invariant-loop
invariant-loop g l = g.L.Ledger.valid l.ledger
