use Rattle.std.proofs.Common.{◌≡◌, ℕ, ◌<◌, length, get_or}
use Rattle.graph.specs.Digraph.{marks}
use Rattle.shapes.specs.Heights.{OneMore}
use Rattle.shapes.proofs.height.Marked.relaxed.Given as goal

abbrev pub invariant-loop-x : goal.invariant-loop-x
invariant-loop-x g l =
    ((k : ℕ) → k < l.x → OneMore (g.G.Graph.digraph l.self.graph.now) (marks l.self.marked.now) (λ y. get_or l.best y 0) k (get_or l.next k 0))
    × (length l.next ≡ 48)
