use Rattle.shapes.proofs.Chains.{height_one}
use Rattle.shapes.proofs.laws.height_is_one.Goals as goal

pub returns : goal.returns
returns c = height_one
