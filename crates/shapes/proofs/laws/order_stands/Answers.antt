use Rattle.shapes.proofs.Forests.{antisymmetric}
use Rattle.shapes.proofs.laws.order_stands.Goals as goal

pub returns : goal.returns
returns c = antisymmetric
