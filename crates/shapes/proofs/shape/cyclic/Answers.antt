use Rattle.std.proofs.Common.{refl, rules}
use borrow.Author.Tests.{tests}
use Rattle.shapes.specs.Cycles.{Turns}
use Rattle.shapes.proofs.Nodes.{any_node, cycle_by}
use Rattle.shapes.proofs.shape.cyclic.Goals as goal

pub returns : goal.returns
returns g c =
    let d = g.G.Graph.digraph c.args.g.now in
    cycle_by d _
    (any_node (Turns d) c.nodes.result _ _ _ c.any.result c.any.ensures.ran refl c.nodes.ensures.count
    (λ x q k. search (rules, tests)) (λ x q k. search (rules, tests)))
