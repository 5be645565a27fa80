use Rattle.graph.specs.Digraph.{marks}
use Rattle.std.proofs.Common.{get_or, arith}
use Rattle.shapes.proofs.Chains.{best_none, best_more, best_all, largest_first}
use Rattle.shapes.proofs.height.Marked.height.Goals as goal

pub loop-round-init : goal.loop-round-init
loop-round-init g c = λ x _. best_none (g.G.Graph.digraph c.args.self.now.graph.now) (marks c.args.self.now.marked.now) 48 x

pub loop-round-preserved : goal.loop-round-preserved
loop-round-preserved g c =
    λ x h.
    best_more (g.G.Graph.digraph c.args.self.now.graph.now) (marks c.args.self.now.marked.now) c.loop-round._round (λ y. get_or c.loop-round.best y 0)
    c.loop-round.invariant x (get_or c.relaxed-best.result x 0) h (c.relaxed-best.ensures x h)

pub returns : goal.returns
returns g c =
    best_all (g.G.Graph.digraph c.args.self.now.graph.now) (marks c.args.self.now.marked.now) c.requires c.loop-round._round c.nodes-n.result c.largest.result
    (λ y. get_or c.loop-round.best y 0) (omega arith) c.nodes-n.ensures.count c.loop-round.invariant (largest_first _ _ _ (omega arith) c.largest.ensures)
