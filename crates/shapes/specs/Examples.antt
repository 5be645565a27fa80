-- Graphs that are written out.
use Rattle.std.specs.Prelude.{true, [], ◌∷◌, nat_lt}
use Rattle.shapes.specs.declared.shape.Shape.TheVariants.{Forest, Acyclic, Cyclic}
use Rattle.graph.specs.Digraph.{Digraph}
use Rattle.shapes.specs.Views.{edgeless, with_edges}
use Rattle.shapes.specs.Heights.{IsHeight}
use Rattle.shapes.specs.Shapes.{Shaped}

-- no edge; two to two; a loop; there and back; a path; two paths to one node
abbrev pub bare : Digraph
bare = edgeless 2

abbrev pub two_to_two : Digraph
two_to_two = with_edges (edgeless 5) ((1, 3) ∷ (1, 4) ∷ (2, 3) ∷ (2, 4) ∷ [])

abbrev pub loop : Digraph
loop = with_edges (edgeless 2) ((1, 1) ∷ [])

abbrev pub there_and_back : Digraph
there_and_back = with_edges (edgeless 3) ((0, 2) ∷ (2, 0) ∷ [])

abbrev pub chain : Digraph
chain = with_edges (edgeless 6) ((0, 1) ∷ (1, 2) ∷ (2, 3) ∷ (5, 3) ∷ [])

-- their shapes, and the most nodes on one path of those above a number
abbrev pub Examples : Type 0
Examples =
    Shaped bare Forest × IsHeight bare (λ x. nat_lt 0 x) 1 × IsHeight bare (λ x. nat_lt 1 x) 0
    × Shaped two_to_two Acyclic × IsHeight two_to_two (λ x. nat_lt 0 x) 2
    × Shaped loop Cyclic × Shaped there_and_back Cyclic
    × Shaped chain Forest × IsHeight chain (λ _. true) 4 × IsHeight chain (λ x. nat_lt 1 x) 2
