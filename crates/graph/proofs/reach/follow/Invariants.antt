use Rattle.graph.proofs.Showing.{Shown}
use Rattle.graph.proofs.reach.follow.Given as goal

abbrev pub invariant-loop-y : goal.invariant-loop-y
invariant-loop-y g l = Shown ((g.G.Graph.digraph l.g).edge l.x) l.y l.initial.visits l.visits
