use Rattle.verdict.proofs.Marking.{marked}
use Rattle.verdict.proofs.laws.marked_verdicts.Goals as goal

pub returns : goal.returns
returns c = marked
