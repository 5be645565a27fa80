use Rattle.std.proofs.Common.{ℕ, nat_lt, ◌&&◌, get_or, rules, arith}
use Rattle.std.proofs.lemmas.Iterator.{YieldsList-from_range, YieldsList-from_map}
use Rattle.std.proofs.lemmas.Iterator.Consumers.{YieldsList-at, YieldsList-from_filter, max_from_yields_List}
use borrow.Author.Tests.{tests}
use Rattle.shapes.proofs.Picks.{best_by}
use Rattle.shapes.proofs.height.Marked.best_after.Goals as goal

pub returns : goal.returns
returns g c =
    let d = g.G.Graph.digraph c.args.self.now.graph.now in
    best_by d (λ y. get_or c.args.best.now y 0) c.args.x c.nodes.result c.max.result c.unwrap_or.result c.requires c.nodes.ensures.count
    (max_from_yields_List c.map-after.result c.max.result c.max.ensures.ran
    (YieldsList-from_map _ (λ (y : ℕ). get_or c.args.best.now y 0)
    (YieldsList-at c.map-after.ensures.source
    (YieldsList-from_filter _ (λ (y : ℕ). nat_lt 0 (get_or c.args.best.now y 0) && d.edge c.args.x y) (YieldsList-from_range 0 c.nodes.result c.nodes.result c.filter.ensures.source (omega arith)) c.filter.ensures.closure
    (λ x b q k. search (rules, tests))))
    c.map-after.ensures.closure (λ x r q k. search (rules, tests)))) c.unwrap_or.ensures
