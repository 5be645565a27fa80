-- The test that computes tells the truth.
use Rattle.std.proofs.Common.{◌≡◌, ℕ, zero, suc, ◌<◌, ◌≤◌, Bool, true, ◌&&◌, eqb, List, [], ◌∷◌, length, Decides, refl, subst, ⊎_elim, arith}
use mathlib.Core.List.Memᴰ
use Rattle.std.proofs.lemmas.Bool.{both_ways, cases_lt, eq-eqb, eqb-true, or_cases, or_left, or_right, and_parts, and_from}
use Rattle.graph.specs.Digraph.{Digraph, Leads, stay, step, Walk, ◌∈◌}
use Rattle.graph.specs.Reached.{some_below, reached_in, reached}
use Rattle.graph.proofs.Walks.{leads_walk}
use Rattle.graph.proofs.Direct.{direct}
use Rattle.graph.proofs.Pigeon.{pigeon}

pub some_below_decides : (p : ℕ → Bool) (P : ℕ → Type 0) (n : ℕ) → ((k : ℕ) → k < n → Decides (p k) (P k)) → Decides (some_below p n) ((k : ℕ) × (k < n) × P k)
some_below_decides p P zero each = (λ e. absurd (both_ways _ refl e), λ (k, h, q). absurd (omega arith))
some_below_decides p P (suc n) each =
    let below = some_below_decides p P n (λ k h. each k (omega arith)) in (
      λ e.
          ⊎_elim {B = some_below p n ≡ true} (λ q. (n, omega arith, (each n (omega arith)).0 q))
          (λ q. let (k, h, r) = below.0 q in (k, omega arith, r)) (or_cases (p n) (some_below p n) e),
      λ (k, h, q).
          ⊎_elim (λ i. or_right (p n) _ (below.1 (k, i, q))) (λ i. or_left _ _ ((each n (omega arith)).1 (subst P (omega arith) q))) (cases_lt k n),
    )

pub some_of : (p : ℕ → Bool) (n : ℕ) → Decides (some_below p n) ((k : ℕ) × (k < n) × (p k ≡ true))
some_of p n = some_below_decides p (λ k. p k ≡ true) n (λ k _. (λ e. e, λ e. e))

walk_nodes : (g : Digraph) (x a : ℕ) (l : List ℕ) (b : ℕ) → Walk g a l b → a < g.nodes → x ∈ (a ∷ l) → x < g.nodes
walk_nodes g x a [] b w h (Memᴰ.head e) = omega arith
walk_nodes g x a [] b w h (Memᴰ.tail m) = elim m [ ]
walk_nodes g x a (c ∷ l) b w h (Memᴰ.head e) = omega arith
walk_nodes g x a (c ∷ l) b w h (Memᴰ.tail m) = walk_nodes g x c l b w.1 w.0.to m

module _ (g : Digraph) where
  sound : (k a b : ℕ) → a < g.nodes → reached_in g k a b ≡ true → Leads g a b
  sound zero a b h e = subst (λ x. Leads g a x) (eqb-true a b e) stay
  sound (suc k) a b h e =
      ⊎_elim {B = some_below (λ y. g.edge a y && reached_in g k y b) g.nodes ≡ true} (λ q. subst (λ x. Leads g a x) (eqb-true a b q) stay)
      (λ q.
      let (y, i, r) = (some_of (λ y. g.edge a y && reached_in g k y b) g.nodes).0 q in
      let (u, v) = and_parts (g.edge a y) (reached_in g k y b) r in
      step (record { from = h; to = i; runs = u }) (sound k y b i v))
      (or_cases (eqb a b) _ e)

  complete : (k a : ℕ) (l : List ℕ) (b : ℕ) → Walk g a l b → length l ≤ k → reached_in g k a b ≡ true
  complete zero a [] b w h = eq-eqb a b w
  complete zero a (c ∷ l) b w h = absurd (omega arith)
  complete (suc k) a [] b w h = or_left _ _ (eq-eqb a b w)
  complete (suc k) a (c ∷ l) b (s, w) h =
      or_right (eqb a b) _
      ((some_of (λ y. g.edge a y && reached_in g k y b) g.nodes).1 (c, s.to, and_from _ _ s.runs (complete k c l b w (omega arith))))

  pub reach_computes : (a b : ℕ) → a < g.nodes → Decides (reached g a b) (Leads g a b)
  reach_computes a b h = (
    sound g.nodes a b h,
    λ p.
        let (l, w) = leads_walk p in
        let (k, v, d) = direct g a l b w in
        let few = pigeon g.nodes (a ∷ k) d (λ x. walk_nodes g x a k b v h) in
        complete g.nodes a k b v (omega arith),
  )
