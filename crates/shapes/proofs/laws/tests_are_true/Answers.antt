use Rattle.shapes.proofs.Computing.{computes}
use Rattle.shapes.proofs.laws.tests_are_true.Goals as goal

pub returns : goal.returns
returns c = computes
