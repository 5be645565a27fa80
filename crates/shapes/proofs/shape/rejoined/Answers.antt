use Rattle.std.proofs.Common.{◌≡◌, ℕ, true, refl, rules}
use borrow.Author.Tests.{tests}
use Rattle.graph.specs.Digraph.{Leads}
use Rattle.shapes.specs.Views.{undirected, without}
use Rattle.shapes.proofs.Nodes.{any_node, rejoined_by}
use Rattle.shapes.proofs.shape.rejoined.Goals as goal

pub returns : goal.returns
returns g c =
    let d = g.G.Graph.digraph c.args.g.now in
    rejoined_by d _ c.args.a c.requires
    (any_node (λ (b : ℕ). ((undirected d).edge c.args.a b ≡ true) × Leads (without (undirected d) c.args.a b) c.args.a b) c.nodes.result _ _ _ c.any.result c.any.ensures.ran refl c.nodes.ensures.count
    (λ x q k. search (rules, tests)) (λ x q k. search (rules, tests)))
