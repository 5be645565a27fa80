-- What a survey says of a graph.
use Rattle.std.specs.Prelude.{◌≡◌, ℕ, Bool}
use Rattle.graph.specs.Digraph.{Digraph}
use Rattle.shapes.specs.declared.shape.Shape.{Shape}
use Rattle.shapes.specs.declared.shape.Shape.TheVariants.{Forest, Acyclic, Cyclic}
use Rattle.shapes.specs.Alike.{Alike}
use Rattle.shapes.specs.Heights.{IsHeight}
use Rattle.shapes.specs.Shapes.{Shaped}

-- a cyclic graph has height 0
abbrev pub HeightBy : Shape → Digraph → (ℕ → Bool) → ℕ → Type 0
HeightBy Cyclic g marked h = h ≡ 0
HeightBy Acyclic g marked h = IsHeight g marked h
HeightBy Forest g marked h = IsHeight g marked h

abbrev pub Surveyed : Digraph → (ℕ → Bool) → Shape → ℕ → Type 0
Surveyed g marked s h = Shaped g s × HeightBy s g marked h

-- graphs that are alike, with the same nodes marked, have one shape and one height
abbrev pub OneSurvey : Type 0
OneSurvey = (g h : Digraph) (marked : ℕ → Bool) (s t : Shape) (j k : ℕ) → Alike g h → Surveyed g marked s j → Surveyed h marked t k → (s ≡ t) × (j ≡ k)
