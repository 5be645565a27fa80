use Rattle.verdict.proofs.Unique.{one_verdict}
use Rattle.verdict.proofs.laws.verdict_is_one.Goals as goal

pub returns : goal.returns
returns c = one_verdict
