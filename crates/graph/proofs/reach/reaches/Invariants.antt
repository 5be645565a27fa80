use Rattle.graph.proofs.Sweep.{Swept, spare}
use Rattle.graph.proofs.reach.reaches.Given as goal

abbrev pub invariant-loop-x : goal.invariant-loop-x
invariant-loop-x g l = Swept (g.G.Graph.digraph l.g) l.a l.visits

abbrev pub decreases-loop-x : goal.decreases-loop-x
decreases-loop-x g l = spare l.visits
