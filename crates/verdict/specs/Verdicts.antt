-- The verdict on a table: what the derivable edges are as a graph.
use Rattle.std.specs.Prelude.{◌≡◌, ℕ, ◌<◌, Bool, length, IsTrue, ◌↔◌}
use Rattle.graph.specs.Digraph.{Digraph}
use Rattle.shapes.specs.Surveys.{Surveyed}
use Rattle.theory.specs.Table.{Table}
use Rattle.chase.specs.Fact.{role, edge}
use Rattle.chase.specs.Judging.{judging_terms, unsafe_axioms_of, unsafe_term}
use Rattle.chase.specs.LawOfJudging.{Derivable}
use Rattle.chase.specs.Trials.{term_at}
use Rattle.verdict.specs.declared.verdict.Verdict.{Verdict}

-- E of the terms with these numbers is derivable in judging
abbrev pub DerivedEdge : Table → ℕ → ℕ → Type 0
DerivedEdge t i j = Derivable t (role edge (term_at (judging_terms t) i) (term_at (judging_terms t) j))

-- The graph has a node for each term of judging, and an edge where E is derivable.
pub record EdgesOf (t : Table) (g : Digraph) : Type 0 where
  pub nodes : g.nodes ≡ length (judging_terms t)
  pub edges : (i j : ℕ) → i < g.nodes → j < g.nodes → IsTrue (g.edge i j) ↔ DerivedEdge t i j

-- whether node i is the witness of an unsafe axiom
abbrev pub unsafe_node : Table → ℕ → Bool
unsafe_node t i = unsafe_term t (term_at (judging_terms t) i)

-- The shape and the height are those of the derivable edges, and the unsafe axioms are counted.
pub record VerdictOf (t : Table) (v : Verdict) : Type 0 where
  pub graph : Digraph
  pub edges : EdgesOf t graph
  pub surveyed : Surveyed graph (unsafe_node t) v.shape v.height
  pub counted : v.unsafe_axioms ≡ length (unsafe_axioms_of t)

-- a table has one verdict
abbrev pub OneVerdict : Type 0
OneVerdict = (t : Table) (v w : Verdict) → VerdictOf t v → VerdictOf t w → v ≡ w
