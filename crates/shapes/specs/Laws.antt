-- Laws of paths.
use Rattle.std.specs.Prelude.{◌≡◌, ℕ, List}
use Rattle.graph.specs.Digraph.{Digraph, Leads, Walk}
use Rattle.shapes.specs.Cycles.{DirectedCycle, IsForest}

-- in a forest two paths between the same two nodes are equal
abbrev pub UniquePaths : Type 0
UniquePaths = (g : Digraph) → IsForest g → (a b : ℕ) (l k : List ℕ) → Walk g a l b → Walk g a k b → l ≡ k

-- without directed cycles, two nodes that lead to one another are equal
abbrev pub Antisymmetric : Type 0
Antisymmetric = (g : Digraph) → (DirectedCycle g → ⊥) → (a b : ℕ) → Leads g a b → Leads g b a → a ≡ b
