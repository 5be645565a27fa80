use Rattle.std.proofs.Common.{◌≡◌, ℕ, true, refl, rules}
use borrow.Author.Tests.{tests}
use Rattle.graph.specs.Digraph.{Leads}
use Rattle.shapes.proofs.Nodes.{any_node, turns_by}
use Rattle.shapes.proofs.shape.turns.Goals as goal

pub returns : goal.returns
returns g c =
    let d = g.G.Graph.digraph c.args.g.now in
    turns_by d _ c.args.a c.requires
    (any_node (λ (b : ℕ). (d.edge c.args.a b ≡ true) × Leads d b c.args.a) c.nodes.result _ _ _ c.any.result c.any.ensures.ran refl c.nodes.ensures.count
    (λ x q k. search (rules, tests)) (λ x q k. search (rules, tests)))
