-- The names of shapes.
use Rattle.std.specs.Prelude.{ℕ, List, codes}
use Rattle.shapes.specs.declared.shape.Shape.{Shape}
use Rattle.shapes.specs.declared.shape.Shape.TheVariants.{Forest, Acyclic, Cyclic}

abbrev pub shape_text : Shape → List ℕ
shape_text Forest = codes "forest"
shape_text Acyclic = codes "acyclic"
shape_text Cyclic = codes "cyclic"
