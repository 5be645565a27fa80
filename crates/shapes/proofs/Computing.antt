-- The tests that compute tell the truth.
use Rattle.std.proofs.Common.{◌≡◌, ℕ, zero, suc, ◌<◌, ◌≤◌, max, Bool, true, false, cond, ◌⊎◌, Decides, refl, ap, subst, inl, inr, ⊎_elim, add-one, arith}
use Rattle.std.proofs.lemmas.Bool.{cases_Bool, cases_lt, cond-true, cond-false}
use Rattle.std.proofs.lemmas.Bool.Decides.{Decides-and, not_from_Decides}
use Rattle.shapes.specs.declared.shape.Shape.TheVariants.{Forest, Acyclic, Cyclic}
use Rattle.graph.specs.Digraph.{Digraph, Leads}
use Rattle.shapes.specs.Views.{undirected, without}
use Rattle.shapes.specs.Cycles.{Turns, DirectedCycle, UndirectedCycle, Rejoined}
use Rattle.shapes.specs.Heights.{IsHeight, OneMore, Largest}
use Rattle.shapes.specs.Shapes.{Shaped}
use Rattle.shapes.specs.Computed.{most_below, on_cycle, has_cycle, on_ring, has_ring, shape_of, best_in, height_of, Computes}
use Rattle.graph.specs.Reached.{reached}
use Rattle.graph.proofs.Computing.{some_below_decides, reach_computes}
use Rattle.shapes.proofs.Nodes.{turns_by, cycle_by, rejoined_by, ring_by}
use Rattle.shapes.proofs.Chains.{Best, best_none, best_more, best_all}

module _ (g : Digraph) where
  turns_computes : (a : ℕ) → a < g.nodes → Decides (on_cycle g a) (Turns g a)
  turns_computes a h =
      turns_by g (on_cycle g a) a h
      (some_below_decides _ (λ b. (g.edge a b ≡ true) × Leads g b a) g.nodes (λ b i. Decides-and (g.edge a b) (reached g b a) (λ e. e, λ e. e) (reach_computes g b a i)))

  cycle_computes : Decides (has_cycle g) (DirectedCycle g)
  cycle_computes =
      cycle_by g (has_cycle g) (some_below_decides (on_cycle g) (Turns g) g.nodes turns_computes)

module _ (g : Digraph) (free : DirectedCycle g → ⊥) where
  joined_computes : (a : ℕ) → a < g.nodes → Decides (on_ring g a) (Rejoined g a)
  joined_computes a h =
      rejoined_by g (on_ring g a) a h
      (some_below_decides _ (λ b. ((undirected g).edge a b ≡ true) × Leads (without (undirected g) a b) a b) g.nodes
      (λ b i. Decides-and ((undirected g).edge a b) (reached (without (undirected g) a b) a b) (λ e. e, λ e. e) (reach_computes (without (undirected g) a b) a b h)))

  ring_computes : Decides (has_ring g) (UndirectedCycle g)
  ring_computes =
      ring_by g (has_ring g) free (some_below_decides (on_ring g) (Rejoined g) g.nodes joined_computes)

pub shape_computes : (g : Digraph) → Shaped g (shape_of g)
shape_computes g = go (has_cycle g) (has_ring g) (cycle_computes g) (ring_computes g)
  where
    go : (c r : Bool) → Decides c (DirectedCycle g) → ((DirectedCycle g → ⊥) → Decides r (UndirectedCycle g)) → Shaped g (cond c Cyclic (cond r Acyclic Forest))
    go true r d e = d.0 refl
    go false true d e = let free = not_from_Decides false d refl in (free, (e free).0 refl)
    go false false d e = let free = not_from_Decides false d refl in (free, not_from_Decides false (e free) refl)

largest_computes : (f : ℕ → ℕ) (n : ℕ) → Largest f n (most_below f n)
largest_computes f zero = record { above = λ k h. absurd (omega arith); least = inl refl }
largest_computes f (suc n) = go (largest_computes f n) (cases_lt (f n) (most_below f n))
  where
    upper : (k : ℕ) → k < suc n → n ≤ k → k ≡ n
    upper k i j = omega arith

    go : Largest f n (most_below f n) → (f n < most_below f n) ⊎ (most_below f n ≤ f n) → Largest f (suc n) (max (f n) (most_below f n))
    go t (inl h) = record {
      above = λ k i. ⊎_elim (λ j. omega (arith, t.above k j)) (λ j. let e = ap f (upper k i j) in omega arith) (cases_lt k n);
      least = ⊎_elim (λ e. inl (omega arith)) (λ (k, i, e). inr (k, omega arith, omega arith)) t.least;
    }
    go t (inr h) = record {
      above = λ k i. ⊎_elim (λ j. omega (arith, t.above k j)) (λ j. let e = ap f (upper k i j) in omega arith) (cases_lt k n);
      least = inr (n, omega arith, omega arith);
    }

module _ (g : Digraph) (marked : ℕ → Bool) where
  one_more : (k x : ℕ) → x < g.nodes → OneMore g marked (best_in g marked k) x (best_in g marked (suc k) x)
  one_more k x h = record {
    unmarked = λ e. cond-false (marked x) _ 0 e;
    some = λ e. let r = value e in omega arith;
    above =
        λ e y s.
        let r = value e in
        let b = (largest_computes after g.nodes).above y s.to in
        let q = cond-true (g.edge x y) (best_in g marked k y) 0 s.runs in omega arith;
    least =
        λ e.
        let r = value e in
        ⊎_elim (λ z. inl (omega arith))
        (λ (y, i, z).
        ⊎_elim
        (λ t. let q = cond-true (g.edge x y) (best_in g marked k y) 0 t in inr (y, record { from = h; to = i; runs = t }, omega arith))
        (λ t. let q = cond-false (g.edge x y) (best_in g marked k y) 0 t in inl (omega arith)) (cases_Bool (g.edge x y)))
        (largest_computes after g.nodes).least;
  }
    where
      after : ℕ → ℕ
      after y = cond (g.edge x y) (best_in g marked k y) 0

      value : marked x ≡ true → best_in g marked (suc k) x ≡ suc (most_below after g.nodes)
      value e = cond-true (marked x) _ 0 e

  rounds : (k x : ℕ) → x < g.nodes → Best g marked k x (best_in g marked k x)
  rounds zero x h = best_none g marked 0 x
  rounds (suc k) x h =
      subst (λ j. Best g marked j x (best_in g marked (suc k) x)) (add-one k)
      (best_more g marked k (best_in g marked k) (rounds k) x (best_in g marked (suc k) x) h (one_more k x h))

  pub height_computes : (DirectedCycle g → ⊥) → IsHeight g marked (height_of g marked)
  height_computes free =
      best_all g marked free g.nodes g.nodes (height_of g marked) (best_in g marked g.nodes) (omega arith) refl (rounds g.nodes)
      (largest_computes (best_in g marked g.nodes) g.nodes)

pub computes : Computes
computes = record { shape = shape_computes; height = height_computes }
