use Rattle.shapes.specs.Examples.{bare, two_to_two, loop, there_and_back, chain}
use Rattle.shapes.proofs.Computing.{shape_computes, height_computes}
use Rattle.shapes.proofs.laws.examples_stand.Goals as goal

-- by computation: a shape that computes is the one that is claimed
pub returns : goal.returns
returns c =
    let empty = shape_computes bare in
    let two = shape_computes two_to_two in
    let long = shape_computes chain in
    (empty, height_computes bare _ empty.0, height_computes bare _ empty.0, two, height_computes two_to_two _ two.0, shape_computes loop, shape_computes there_and_back, long, height_computes chain _ long.0, height_computes chain _ long.0)
