-- Graphs made from graphs.
use Rattle.std.specs.Prelude.{ℕ, Bool, false, not, ◌&&◌, ◌||◌, List, [], ◌∷◌, ◌==◌, slice_index_or}
use Rattle.graph.specs.Digraph.{Digraph}

-- an edge one way or the other
abbrev pub undirected : Digraph → Digraph
undirected g = record { nodes = g.nodes; edge = λ x y. g.edge x y || g.edge y x }

-- x and y are a and b, in either order
abbrev pub are_both : ℕ → ℕ → ℕ → ℕ → Bool
are_both a b x y = (x == a && y == b) || (x == b && y == a)

-- no edge between a and b
abbrev pub without : Digraph → ℕ → ℕ → Digraph
without g a b = record { nodes = g.nodes; edge = λ x y. not (are_both a b x y) && g.edge x y }

-- one edge more, from a to b
abbrev pub with_edge : Digraph → ℕ → ℕ → Digraph
with_edge g a b = record { nodes = g.nodes; edge = λ x y. g.edge x y || (x == a && y == b) }

-- one edge more for each pair
abbrev pub with_edges : Digraph → List (ℕ × ℕ) → Digraph
with_edges g [] = g
with_edges g (e ∷ es) = with_edge (with_edges g es) e.0 e.1

-- no edge
abbrev pub edgeless : ℕ → Digraph
edgeless n = record { nodes = n; edge = λ x y. false }

-- a row for each node, with a mark for each node to which an edge leads
abbrev pub tabled : List (List Bool) → ℕ → Digraph
tabled rows n = record { nodes = n; edge = λ x y. slice_index_or (slice_index_or rows x []) y false }
