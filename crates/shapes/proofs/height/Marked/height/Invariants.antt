use Rattle.graph.specs.Digraph.{marks}
use Rattle.std.proofs.Common.{ℕ, ◌<◌, get_or}
use Rattle.shapes.proofs.Chains.{Best}
use Rattle.shapes.proofs.height.Marked.height.Given as goal

abbrev pub invariant-loop-round : goal.invariant-loop-round
invariant-loop-round g l =
    (x : ℕ) → x < (g.G.Graph.digraph l.self.graph.now).nodes → Best (g.G.Graph.digraph l.self.graph.now) (marks l.self.marked.now) l._round x (get_or l.best x 0)
