use Rattle.std.proofs.Common.{refl, rules}
use borrow.Author.Tests.{tests}
use Rattle.shapes.specs.Cycles.{Rejoined}
use Rattle.shapes.proofs.Nodes.{any_node, ring_by}
use Rattle.shapes.proofs.shape.ringed.Goals as goal

pub returns : goal.returns
returns g c =
    let d = g.G.Graph.digraph c.args.g.now in
    ring_by d _ c.requires
    (any_node (Rejoined d) c.nodes.result _ _ _ c.any.result c.any.ensures.ran refl c.nodes.ensures.count
    (λ x q k. search (rules, tests)) (λ x q k. search (rules, tests)))
