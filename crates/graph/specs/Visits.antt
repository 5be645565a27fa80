-- How far a search has come with each node.
use Rattle.std.specs.Prelude.{◌≡◌, ℕ, ◌⊎◌, ◌↔◌, List, slice_index_or}
use Rattle.graph.specs.declared.reach.Visit.{Visit}
use Rattle.graph.specs.declared.reach.Visit.TheVariants.{Unseen, Followed}
use Rattle.graph.specs.Digraph.{Digraph, Step}

-- how far it has come with node k
abbrev pub visit_at : List Visit → ℕ → Visit
visit_at visits k = slice_index_or visits k Unseen

-- the search has come to the node
abbrev pub IsKnown : Visit → Type 0
IsKnown visit = visit ≡ Unseen → ⊥

-- What becomes of the visit of y when x is followed: x is followed besides those that were; known are those that were, x, and each to which an edge leads from x.
pub record Follows (g : Digraph) (x y : ℕ) (old new : Visit) : Type 0 where
  pub followed : (new ≡ Followed) ↔ ((y ≡ x) ⊎ (old ≡ Followed))
  pub known : IsKnown new ↔ ((y ≡ x) ⊎ (IsKnown old ⊎ Step g x y))
