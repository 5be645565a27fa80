-- What each shape says of a graph.
use Rattle.std.specs.Prelude.{◌≡◌}
use Rattle.shapes.specs.declared.shape.Shape.{Shape}
use Rattle.shapes.specs.declared.shape.Shape.TheVariants.{Forest, Acyclic, Cyclic}
use Rattle.graph.specs.Digraph.{Digraph}
use Rattle.shapes.specs.Cycles.{DirectedCycle, IsForest, IsAcyclic}

abbrev pub Shaped : Digraph → Shape → Type 0
Shaped g Forest = IsForest g
Shaped g Acyclic = IsAcyclic g
Shaped g Cyclic = DirectedCycle g

-- a graph has one shape
abbrev pub OneShape : Type 0
OneShape = (g : Digraph) (s t : Shape) → Shaped g s → Shaped g t → s ≡ t
