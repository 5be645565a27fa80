-- Paths put together, and paths as walks.
use Rattle.std.proofs.Common.{◌≡◌, ℕ, ◌≤◌, ◌⊎◌, List, [], ◌∷◌, refl, subst, inl, inr, arith}
use Rattle.graph.specs.Digraph.{Digraph, Step, Leads, stay, step, Walk}

pub join : {g : Digraph} {a b c : ℕ} → Leads g a b → Leads g b c → Leads g a c
join stay q = q
join (step s p) q = step s (join p q)

pub one : {g : Digraph} {a b : ℕ} → Step g a b → Leads g a b
one s = step s stay

pub walk_leads : (g : Digraph) (a : ℕ) (l : List ℕ) (b : ℕ) → Walk g a l b → Leads g a b
walk_leads g a [] b e = subst (λ x. Leads g a x) e stay
walk_leads g a (c ∷ l) b (s, w) = step s (walk_leads g c l b w)

pub leads_walk : {g : Digraph} {a b : ℕ} → Leads g a b → (l : List ℕ) × Walk g a l b
leads_walk stay = ([], refl)
leads_walk (step {b = c} s p) = let (l, w) = leads_walk p in (c ∷ l, (s, w))

-- a path with an edge has nodes at both its ends
pub outside : {g : Digraph} {a b : ℕ} → (g.nodes ≤ a) ⊎ (g.nodes ≤ b) → Leads g a b → a ≡ b
outside far stay = refl
outside (inl far) (step s p) = absurd (omega (arith, s.from))
outside (inr far) (step s p) = absurd (omega (arith, s.to, outside (inr far) p))

-- along edges that another graph has too
pub map_walk : {g h : Digraph} → ((x y : ℕ) → Step g x y → Step h x y) → (a : ℕ) (l : List ℕ) (b : ℕ) → Walk g a l b → Walk h a l b
map_walk f a [] b w = w
map_walk f a (c ∷ l) b (s, w) = (f a c s, map_walk f c l b w)
