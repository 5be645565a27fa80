-- An edge lies on an undirected cycle exactly when its ends are joined without it.
use Rattle.std.proofs.Common.{◌≡◌, ℕ, ◌≤◌, List, [], ◌∷◌, length, sym, refl, subst, inl, inr, arith}
use mathlib.Core.List.Memᴰ
use Rattle.graph.specs.Digraph.{Digraph, Step, Leads, stay, step, Walk}
use Rattle.shapes.specs.Views.{undirected, without}
use Rattle.shapes.specs.Cycles.{UndirectedCycle, Rejoined}
use Rattle.graph.specs.Digraph.{◌∈◌, Distinct}
use Rattle.graph.proofs.Walks.{leads_walk, map_walk}
use Rattle.shapes.proofs.Edges.{undirected_both, AreBoth, keeps, kept, not_both}
use Rattle.graph.proofs.Direct.{direct}

last_in : (g : Digraph) (a x : ℕ) (l : List ℕ) (b : ℕ) → Walk g a (x ∷ l) b → b ∈ (x ∷ l)
last_in g a x [] b w = Memᴰ.head (sym w.1)
last_in g a x (y ∷ l) b w = Memᴰ.tail (last_in g x y l b w.1)

-- a walk that does not meet a does not use an edge of a
away : (g : Digraph) (a z c : ℕ) (l : List ℕ) (b : ℕ) → Walk g c l b → (a ∈ (c ∷ l) → ⊥) → Leads (without g a z) c b
away g a z c [] b w out = subst (λ x. Leads (without g a z) c x) w stay
away g a z c (x ∷ l) b (s, w) out = step (keeps g a z off s) (away g a z x l b w (λ m. out (Memᴰ.tail m)))
  where
    off : AreBoth a z c x → ⊥
    off (inl (p, q)) = out (Memᴰ.head (sym p))
    off (inr (p, q)) = out (Memᴰ.tail (Memᴰ.head (sym q)))

ring_joined : (g : Digraph) (a : ℕ) (l : List ℕ) (z : ℕ) → 3 ≤ length (a ∷ l) → Distinct (a ∷ l) → Walk (undirected g) a l z → Step (undirected g) z a → Rejoined g a
ring_joined g a [] z three d w s = absurd (omega arith)
ring_joined g a (x ∷ []) z three d w s = absurd (omega arith)
ring_joined g a (x ∷ y ∷ l) z three d (t, w) s =
    (z, undirected_both g z a s, step (keeps (undirected g) a z off t) (away (undirected g) a z x (y ∷ l) z w d.0))
  where
    off : AreBoth a z a x → ⊥
    off (inl (p, q)) = d.1.0 (Memᴰ.cast q (last_in (undirected g) x y l z w))
    off (inr (p, q)) = d.0 (Memᴰ.tail (Memᴰ.cast p (last_in (undirected g) x y l z w)))

pub cycle_joined : (g : Digraph) → UndirectedCycle g → (a : ℕ) × Rejoined g a
cycle_joined g r = (r.a, ring_joined g r.a r.l r.z r.three r.distinct r.around r.home)

simple_ring : (g : Digraph) (a b : ℕ) → (a ≡ b → ⊥) → Step (undirected g) a b → (k : List ℕ) → Walk (without (undirected g) a b) a k b → Distinct (a ∷ k) → UndirectedCycle g
simple_ring g a b ne s [] w d = absurd (ne w)
simple_ring g a b ne s (x ∷ []) w d = absurd (not_both (undirected g) a b w.0 (inl (refl, w.1)))
simple_ring g a b ne s (x ∷ y ∷ k) w d = record {
  a = a;
  l = x ∷ y ∷ k;
  z = b;
  three = omega arith;
  distinct = d;
  around = map_walk (λ u v t. kept (undirected g) a b t) a (x ∷ y ∷ k) b w;
  home = undirected_both g a b s;
}

pub joined_cycle : (g : Digraph) (a b : ℕ) → (a ≡ b → ⊥) → Step (undirected g) a b → Leads (without (undirected g) a b) a b → UndirectedCycle g
joined_cycle g a b ne s p =
    let (l, w) = leads_walk p in
    let (k, v, d) = direct (without (undirected g) a b) a l b w in
    simple_ring g a b ne s k v d
