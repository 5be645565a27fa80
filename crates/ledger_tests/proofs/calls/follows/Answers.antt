use Rattle.std.proofs.Common.{rules}
use Rattle.std.proofs.lemmas.Fn.{serves_by}
use Rattle.ledger_tests.proofs.calls.follows.Goals as goal

pub all-requires-clause-callable : goal.all-requires-clause-callable
all-requires-clause-callable g c =
    serves_by _ (λ _ q. g.L.Ledger.valid q.0.now) (λ _ q x v ready called. search rules) _ _ _ _ c.empty.ensures.ready (λ _ t q x u _ _ ready. search rules)
