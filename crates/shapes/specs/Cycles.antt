-- Cycles, forests.
use Rattle.std.specs.Prelude.{ℕ, ◌≤◌, List, ◌∷◌, length}
use Rattle.graph.specs.Digraph.{Digraph, Step, Leads, Walk, Distinct}
use Rattle.shapes.specs.Views.{undirected, without}

-- a path of one or more edges leads from a back to a; a loop is one
abbrev pub Turns : Digraph → ℕ → Type 0
Turns g a = (b : ℕ) × Step g a b × Leads g b a

abbrev pub DirectedCycle : Digraph → Type 0
DirectedCycle g = (a : ℕ) × Turns g a

-- Nodes a, then those of l, at least three and all distinct, each adjacent to the next and the last, z, to the first:
-- two nodes are adjacent if an edge runs one way or the other.
pub record UndirectedCycle (g : Digraph) : Type 0 where
  pub a : ℕ
  pub l : List ℕ
  pub z : ℕ
  pub three : 3 ≤ length (a ∷ l)
  pub distinct : Distinct (a ∷ l)
  pub around : Walk (undirected g) a l z
  pub home : Step (undirected g) z a

-- from a an edge, either way, leads to a node from which a is reached without it
abbrev pub Rejoined : Digraph → ℕ → Type 0
Rejoined g a = (b : ℕ) × Step (undirected g) a b × Leads (without (undirected g) a b) a b

abbrev pub IsForest : Digraph → Type 0
IsForest g = (DirectedCycle g → ⊥) × (UndirectedCycle g → ⊥)

abbrev pub IsAcyclic : Digraph → Type 0
IsAcyclic g = (DirectedCycle g → ⊥) × UndirectedCycle g
