-- The same by tests that compute, for graphs that are written out.
use Rattle.std.specs.Prelude.{ℕ, zero, suc, max, Bool, if◌then◌else◌, ◌&&◌}
use Rattle.shapes.specs.declared.shape.Shape.{Shape}
use Rattle.shapes.specs.declared.shape.Shape.TheVariants.{Forest, Acyclic, Cyclic}
use Rattle.graph.specs.Digraph.{Digraph}
use Rattle.graph.specs.Reached.{some_below, reached}
use Rattle.shapes.specs.Views.{undirected, without}
use Rattle.shapes.specs.Cycles.{DirectedCycle}
use Rattle.shapes.specs.Heights.{IsHeight}
use Rattle.shapes.specs.Shapes.{Shaped}

-- the largest of the numbers below n
abbrev pub most_below : (ℕ → ℕ) → ℕ → ℕ
most_below f zero = 0
most_below f (suc n) = max (f n) (most_below f n)

-- a path of one or more edges leads back
abbrev pub on_cycle : Digraph → ℕ → Bool
on_cycle g a = some_below (λ b. g.edge a b && reached g b a) g.nodes

abbrev pub has_cycle : Digraph → Bool
has_cycle g = some_below (on_cycle g) g.nodes

abbrev pub on_ring : Digraph → ℕ → Bool
on_ring g a = some_below (λ b. (undirected g).edge a b && reached (without (undirected g) a b) a b) g.nodes

abbrev pub has_ring : Digraph → Bool
has_ring g = some_below (on_ring g) g.nodes

abbrev pub shape_of : Digraph → Shape
shape_of g = if has_cycle g then Cyclic else (if has_ring g then Acyclic else Forest)

-- the most nodes on one path of at most k marked nodes from x
abbrev pub best_in : Digraph → (ℕ → Bool) → ℕ → ℕ → ℕ
best_in g marked zero x = 0
best_in g marked (suc k) x = if marked x then suc (most_below (λ y. if g.edge x y then best_in g marked k y else 0) g.nodes) else 0

abbrev pub height_of : Digraph → (ℕ → Bool) → ℕ
height_of g marked = most_below (best_in g marked g.nodes) g.nodes

-- they tell the truth
pub record Computes : Type 0 where
  pub shape : (g : Digraph) → Shaped g (shape_of g)
  pub height : (g : Digraph) (marked : ℕ → Bool) → (DirectedCycle g → ⊥) → IsHeight g marked (height_of g marked)
