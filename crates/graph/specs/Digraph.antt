-- Directed graphs, paths and walks.
use Rattle.std.specs.Prelude.{◌≡◌, ℕ, ◌<◌, Bool, true, false, List, [], ◌∷◌, slice_index_or}
use mathlib.Core.List.{Memᴰ}

-- Nodes are the numbers below `nodes`; what `edge` says of other numbers does not count.
pub record Digraph : Type 0 where
  pub nodes : ℕ
  pub edge : ℕ → ℕ → Bool

-- the nodes that a list marks
abbrev pub marks : List Bool → ℕ → Bool
marks ms x = slice_index_or ms x false

-- an edge runs from a to b
pub record Step (g : Digraph) (a b : ℕ) : Type 0 where
  pub from : a < g.nodes
  pub to : b < g.nodes
  pub runs : g.edge a b ≡ true

-- a path of zero or more edges
pub data Leads (g : Digraph) : ℕ → ℕ → Type 0 where
  stay : {a : ℕ} → Leads g a a
  step : {a b c : ℕ} → Step g a b → Leads g b c → Leads g a c

-- the same with the nodes that come after the first, in order
abbrev pub Walk : Digraph → ℕ → List ℕ → ℕ → Type 0
Walk g a [] b = a ≡ b
Walk g a (c ∷ l) b = Step g a c × Walk g c l b

-- a is on the list
abbrev pub ◌∈◌ : ℕ → List ℕ → Type 0
a ∈ l = Memᴰ a l

infix 40 ◌∈◌
-- no two are equal
abbrev pub Distinct : List ℕ → Type 0
Distinct [] = Unit {0}
Distinct (a ∷ l) = (a ∈ l → ⊥) × Distinct l
