-- Reachability by a test that computes, for graphs that are written out.
use Rattle.std.specs.Prelude.{ℕ, zero, suc, Bool, false, ◌&&◌, ◌||◌, ◌==◌}
use Rattle.graph.specs.Digraph.{Digraph}

-- some number below n passes
abbrev pub some_below : (ℕ → Bool) → ℕ → Bool
some_below p zero = false
some_below p (suc n) = let rest = some_below p n in p n || rest

-- by at most k edges
abbrev pub reached_in : Digraph → ℕ → ℕ → ℕ → Bool
reached_in g zero a b = a == b
reached_in g (suc k) a b = a == b || some_below (λ y. g.edge a y && reached_in g k y b) g.nodes

-- by any path: one that meets no node twice is shorter than the nodes are many
abbrev pub reached : Digraph → ℕ → ℕ → Bool
reached g a b = reached_in g g.nodes a b
