-- A table has one verdict.
use Rattle.std.proofs.Common.{◌≡◌, sym, ◌∙◌, arith}
use Rattle.std.proofs.lemmas.Bool.Decides.{same_from_decides}
use Rattle.graph.specs.Digraph.{Digraph}
use Rattle.shapes.specs.Alike.{Alike}
use Rattle.shapes.proofs.Alike.{one_survey}
use Rattle.theory.specs.Table.{Table}
use Rattle.verdict.specs.Verdicts.{EdgesOf, unsafe_node, OneVerdict}

-- graphs that decide the derivable edges are alike
alike : (t : Table) (g h : Digraph) → EdgesOf t g → EdgesOf t h → Alike g h
alike t g h p q =
    let n : g.nodes ≡ h.nodes = p.nodes ∙ sym q.nodes in
    record { nodes = n; edges = λ i j a b. same_from_decides (g.edge i j) (h.edge i j) (p.edges i j a b) (q.edges i j (omega arith) (omega arith)) }

-- the surveys of both graphs are one
pub one_verdict : OneVerdict
one_verdict t v w p q =
    let a = alike t p.graph q.graph p.edges q.edges in
    let (s, h) = one_survey p.graph q.graph (unsafe_node t) v.shape w.shape v.height w.height a p.surveyed q.surveyed in
    let u = p.counted ∙ sym q.counted in
    λ i. record { shape = s i; height = h i; unsafe_axioms = u i }
