use Rattle.std.proofs.Common.{rules, tests}
use Rattle.table.specs.Answers.{meaning}
use Rattle.start.proofs.Marking.{marked_at}
use Rattle.start.proofs.marks.is_unsafe_term.Goals as goal

pub returns : goal.returns
returns c = marked_at (meaning c.args.table.now) c.args.terms.now c.args.number _ _ _ _ c.rows.ensures c.get.ensures.lookup.1 c.get.ensures.lookup.3 c.is_some_and.ensures (λ x q. search (rules, tests))
