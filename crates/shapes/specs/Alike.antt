-- Graphs that are alike.
use Rattle.std.specs.Prelude.{◌≡◌, ℕ, ◌<◌}
use Rattle.graph.specs.Digraph.{Digraph}

-- the same nodes, and the same edges between them
pub record Alike (g h : Digraph) : Type 0 where
  pub nodes : g.nodes ≡ h.nodes
  pub edges : (x y : ℕ) → x < g.nodes → y < g.nodes → g.edge x y ≡ h.edge x y
