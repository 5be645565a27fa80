-- The most marked nodes on one path.
use Rattle.std.specs.Prelude.{◌≡◌, ℕ, suc, ◌<◌, ◌≤◌, Bool, true, false, ◌⊎◌, List, ◌∷◌, length}
use Rattle.graph.specs.Digraph.{Digraph, Step, Walk}
use Rattle.graph.specs.Digraph.{◌∈◌}

-- a path from a over the nodes l, all of them marked, a too
pub record MarkedPath (g : Digraph) (marked : ℕ → Bool) (a : ℕ) (l : List ℕ) : Type 0 where
  pub end : ℕ
  pub walk : Walk g a l end
  pub nodes : (x : ℕ) → x ∈ (a ∷ l) → (x < g.nodes) × (marked x ≡ true)

-- h nodes are on some path of marked nodes, unless h is 0, and none has more
pub record IsHeight (g : Digraph) (marked : ℕ → Bool) (h : ℕ) : Type 0 where
  pub reached : 0 < h → (a : ℕ) × (l : List ℕ) × MarkedPath g marked a l × (length (a ∷ l) ≡ h)
  pub most : (a : ℕ) (l : List ℕ) → MarkedPath g marked a l → length (a ∷ l) ≤ h

-- a graph has one height
abbrev pub OneHeight : Type 0
OneHeight = (g : Digraph) (marked : ℕ → Bool) (h k : ℕ) → IsHeight g marked h → IsHeight g marked k → h ≡ k

-- r is the largest of the numbers `best` of the nodes to which an edge leads from x, 0 if there is none
pub record BestAfter (g : Digraph) (best : ℕ → ℕ) (x r : ℕ) : Type 0 where
  pub above : (y : ℕ) → Step g x y → best y ≤ r
  pub least : (r ≡ 0) ⊎ ((y : ℕ) × Step g x y × (r ≡ best y))

-- What r is to the numbers `best` of the nodes to which an edge leads from x: one more than the largest of them, and 0 if x is not marked.
pub record OneMore (g : Digraph) (marked : ℕ → Bool) (best : ℕ → ℕ) (x r : ℕ) : Type 0 where
  pub unmarked : marked x ≡ false → r ≡ 0
  pub some : marked x ≡ true → 0 < r
  pub above : marked x ≡ true → (y : ℕ) → Step g x y → best y < r
  pub least : marked x ≡ true → (r ≡ 1) ⊎ ((y : ℕ) × Step g x y × (r ≡ suc (best y)))

-- r is the largest of the first n numbers, 0 if there is none
pub record Largest (of : ℕ → ℕ) (n r : ℕ) : Type 0 where
  pub above : (k : ℕ) → k < n → of k ≤ r
  pub least : (r ≡ 0) ⊎ ((k : ℕ) × (k < n) × (r ≡ of k))
