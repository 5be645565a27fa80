use Rattle.shapes.proofs.Forests.{unique}
use Rattle.shapes.proofs.laws.paths_are_unique.Goals as goal

pub returns : goal.returns
returns c = unique
