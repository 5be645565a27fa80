-- Paths without directed cycles, and in forests.
use Rattle.std.proofs.Common.{◌≡◌, ℕ, ◌⊎◌, [], ◌∷◌, sym, refl, subst, inl, inr, ⊎_elim}
use Rattle.std.proofs.lemmas.Bool.{cases_eq, or_cases}
use Rattle.graph.specs.Digraph.{Digraph, Step, Leads, stay, step, Walk}
use Rattle.shapes.specs.Views.{undirected, without}
use Rattle.shapes.specs.Cycles.{DirectedCycle, UndirectedCycle}
use Rattle.shapes.specs.Laws.{UniquePaths, Antisymmetric}
use Rattle.graph.proofs.Walks.{join, one, walk_leads}
use Rattle.shapes.proofs.Edges.{back, there, undirected_both, without_both, AreBoth, keeps}
use Rattle.shapes.proofs.Rings.{joined_cycle}

pub antisymmetric : Antisymmetric
antisymmetric g free a b stay q = refl
antisymmetric g free a b (step {b = c} s p) q = absurd (free (a, (c, s, join p q)))

-- without loops the ends of an edge differ
pub ends_differ : (g : Digraph) → (DirectedCycle g → ⊥) → (a b : ℕ) → Step g a b → a ≡ b → ⊥
ends_differ g free a b s e = free (a, (b, s, subst (λ x. Leads g x a) e stay))

pub undirected_differ : (g : Digraph) → (DirectedCycle g → ⊥) → (a b : ℕ) → Step (undirected g) a b → a ≡ b → ⊥
undirected_differ g free a b s e =
    ⊎_elim (λ t. ends_differ g free a b (record { from = s.from; to = s.to; runs = t }) e)
    (λ t. ends_differ g free b a (record { from = s.to; to = s.from; runs = t }) (sym e)) (or_cases (g.edge a b) (g.edge b a) s.runs)

-- a path that never comes to a does not use an edge of a
aside : (g : Digraph) (a c : ℕ) {x b : ℕ} → (Leads g x a → ⊥) → Leads g x b → Leads (without (undirected g) a c) x b
aside g a c far stay = stay
aside g a c {x} far (step {b = y} s p) = step (keeps (undirected g) a c off (there s)) (aside g a c (λ q. far (step s q)) p)
  where
    off : AreBoth a c x y → ⊥
    off (inl (e, f)) = far (subst (λ w. Leads g x w) e stay)
    off (inr (e, f)) = far (subst (λ w. Leads g x w) f (one s))

-- two paths that part and meet again close an undirected cycle
fork : (g : Digraph) → (DirectedCycle g → ⊥) → (a b c d : ℕ) → Step g a c → Leads g c b → Step g a d → Leads g d b → (c ≡ d → ⊥) → UndirectedCycle g
fork g free a b c d s p t q ne =
    joined_cycle g a c (ends_differ g free a c s) (there s)
    (step (keeps (undirected g) a c off (there t))
    (join (aside g a c (λ r. free (a, (d, t, r))) q)
    (back (without_both (undirected g) a c (undirected_both g)) (aside g a c (λ r. free (a, (c, s, r))) p))))
  where
    off : AreBoth a c a d → ⊥
    off (inl (e, f)) = ne (sym f)
    off (inr (e, f)) = ends_differ g free a c s e

pub unique : UniquePaths
unique g f a b [] [] w v = refl
unique g f a b [] (d ∷ k) w (t, v) = absurd (f.0 (a, (d, t, subst (λ x. Leads g d x) (sym w) (walk_leads g d k b v))))
unique g f a b (c ∷ l) [] (s, w) v = absurd (f.0 (a, (c, s, subst (λ x. Leads g c x) (sym v) (walk_leads g c l b w))))
unique g f a b (c ∷ l) (d ∷ k) (s, w) (t, v) = go (cases_eq c d) (λ e. unique g f c b l k w (subst (λ x. Walk g x k b) (sym e) v))
  where
    go : (c ≡ d) ⊎ (c ≡ d → ⊥) → (c ≡ d → l ≡ k) → (c ∷ l) ≡ (d ∷ k)
    go (inl e) same = let q = same e in cc
    go (inr ne) same = absurd (f.1 (fork g f.0 a b c d s (walk_leads g c l b w) t (walk_leads g d k b v) ne))
