use Rattle.std.proofs.Common.{◌≡◌, ap, rules, tests}
use Rattle.graph.specs.Digraph.{Digraph}
use Rattle.verdict.proofs.Drawing.{link_drawn}
use Rattle.verdict.proofs.edges.draw.Goals as goal

pub returns-then-eq-clause-edges : goal.returns-then-eq-clause-edges
returns-then-eq-clause-edges c =
    let at = c.in-Link in
    let number : at.role.number ≡ 9 = search (rules, tests) in
    λ i j. link_drawn _ _ c.args.fact at.role at.x at.y i j at.is number (ap (λ (d : Digraph). d.edge i j) c.draw.ensures)
