-- A walk without its detours.
use Rattle.std.proofs.Common.{◌≡◌, ℕ, ◌⊎◌, List, [], ◌∷◌, sym, subst, inl, inr}
use mathlib.Core.List.Memᴰ
use Rattle.std.proofs.lemmas.Bool.{cases_eq}
use Rattle.graph.specs.Digraph.{Digraph, Walk, ◌∈◌, Distinct}

pub cases_in : (a : ℕ) (l : List ℕ) → (a ∈ l) ⊎ (a ∈ l → ⊥)
cases_in a [] = inr (λ m. elim m [ ])
cases_in a (x ∷ l) = go (cases_eq a x) (cases_in a l)
  where
    go : (a ≡ x) ⊎ (a ≡ x → ⊥) → (a ∈ l) ⊎ (a ∈ l → ⊥) → (a ∈ x ∷ l) ⊎ (a ∈ x ∷ l → ⊥)
    go (inl e) d = inl (Memᴰ.head e)
    go (inr ne) (inl m) = inl (Memᴰ.tail m)
    go (inr ne) (inr out) = inr (λ m. elim (Memᴰ.cases_cons m) [ inl e ↦ ne e | inr n ↦ out n ])

-- a walk that meets no node twice
abbrev pub Direct : Digraph → ℕ → ℕ → Type 0
Direct g a b = (k : List ℕ) × Walk g a k b × Distinct (a ∷ k)

-- from one of its nodes on
cut : (g : Digraph) (c : ℕ) (l : List ℕ) (b a : ℕ) → Walk g c l b → Distinct (c ∷ l) → a ∈ (c ∷ l) → Direct g a b
cut g c [] b a w d (Memᴰ.head e) = subst (λ x. Direct g x b) (sym e) ([], w, d)
cut g c [] b a w d (Memᴰ.tail m) = elim m [ ]
cut g c (x ∷ l) b a w d (Memᴰ.head e) = subst (λ y. Direct g y b) (sym e) (x ∷ l, w, d)
cut g c (x ∷ l) b a w d (Memᴰ.tail m) = cut g x l b a w.1 d.1 m

pub direct : (g : Digraph) (a : ℕ) (l : List ℕ) (b : ℕ) → Walk g a l b → Direct g a b
direct g a [] b w = ([], w, (λ m. elim m [ ], tt))
direct g a (c ∷ l) b (s, w) = go (direct g c l b w)
  where
    go : Direct g c b → Direct g a b
    go (k, v, d) = elim (cases_in a (c ∷ k)) [ inl m ↦ cut g c k b a v d m | inr out ↦ (c ∷ k, (s, v), (out, d)) ]
