-- The edges of graphs made from graphs.
use Rattle.std.proofs.Common.{◌≡◌, ℕ, true, not, ◌⊎◌, Decides, inl, inr, ⊎_elim}
use Rattle.std.proofs.lemmas.Bool.{or_cases, or_left, or_right}
use Rattle.std.proofs.lemmas.Bool.Decides.{Decides-eqb, Decides-and, Decides-or, Decides-not}
use Rattle.graph.specs.Digraph.{Digraph, Step, Leads, stay, step}
use Rattle.shapes.specs.Views.{undirected, are_both, without}
use Rattle.graph.proofs.Walks.{join, one}

-- an edge can be gone back
abbrev pub BothWays : Digraph → Type 0
BothWays g = (x y : ℕ) → Step g x y → Step g y x

pub back : {g : Digraph} {a b : ℕ} → BothWays g → Leads g a b → Leads g b a
back both stay = stay
back both (step s p) = join (back both p) (one (both _ _ s))

pub there : {g : Digraph} {x y : ℕ} → Step g x y → Step (undirected g) x y
there s = record { from = s.from; to = s.to; runs = or_left _ _ s.runs }

pub undirected_both : (g : Digraph) → BothWays (undirected g)
undirected_both g x y s = record {
  from = s.to;
  to = s.from;
  runs = ⊎_elim (λ e. or_right (g.edge y x) (g.edge x y) e) (λ e. or_left (g.edge y x) (g.edge x y) e) (or_cases (g.edge x y) (g.edge y x) s.runs);
}

-- x and y are a and b, in either order
abbrev pub AreBoth : ℕ → ℕ → ℕ → ℕ → Type 0
AreBoth a b x y = ((x ≡ a) × (y ≡ b)) ⊎ ((x ≡ b) × (y ≡ a))

decides_both : (a b x y : ℕ) → Decides (not (are_both a b x y)) (AreBoth a b x y → ⊥)
decides_both a b x y =
    Decides-not _
    (Decides-or _ _ (Decides-and _ _ (Decides-eqb x a) (Decides-eqb y b)) (Decides-and _ _ (Decides-eqb x b) (Decides-eqb y a)))

decides_without : (g : Digraph) (a b x y : ℕ) → Decides ((without g a b).edge x y) ((AreBoth a b x y → ⊥) × (g.edge x y ≡ true))
decides_without g a b x y = Decides-and _ _ (decides_both a b x y) (λ e. e, λ e. e)

module _ (g : Digraph) (a b : ℕ) {x y : ℕ} where
  pub keeps : (AreBoth a b x y → ⊥) → Step g x y → Step (without g a b) x y
  keeps n s = record { from = s.from; to = s.to; runs = (decides_without g a b x y).1 (n, s.runs) }

  pub kept : Step (without g a b) x y → Step g x y
  kept s = record { from = s.from; to = s.to; runs = ((decides_without g a b x y).0 s.runs).1 }

  pub not_both : Step (without g a b) x y → AreBoth a b x y → ⊥
  not_both s = ((decides_without g a b x y).0 s.runs).0

swapped : {a b x y : ℕ} → AreBoth a b x y → AreBoth a b y x
swapped (inl (p, q)) = inr (q, p)
swapped (inr (p, q)) = inl (q, p)

pub without_both : (g : Digraph) (a b : ℕ) → BothWays g → BothWays (without g a b)
without_both g a b both x y s = keeps g a b (λ h. not_both g a b s (swapped h)) (both x y (kept g a b s))
