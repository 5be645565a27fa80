-- Paths of marked nodes.
use Rattle.std.proofs.Common.{◌≡◌, ℕ, suc, ◌+◌, ◌<◌, ◌≤◌, Bool, true, ◌⊎◌, List, [], ◌∷◌, length, get_or, take, replicate, sym, refl, ◌∙◌, subst, inl, inr, ⊎_elim, arith}
use mathlib.Core.List.Memᴰ
use Rattle.std.proofs.lemmas.Bool.{cases_Bool, cases_lt, both_ways}
use Rattle.std.proofs.lemmas.List.{get_or-take, length-take-le}
use Rattle.graph.specs.Digraph.{Digraph, Step, Leads, stay, step, Walk}
use Rattle.shapes.specs.Cycles.{DirectedCycle}
use Rattle.graph.specs.Digraph.{◌∈◌, Distinct}
use Rattle.shapes.specs.Heights.{MarkedPath, IsHeight, OneHeight, OneMore, Largest}
use Rattle.graph.proofs.Made.{get_or-replicate_same}
use Rattle.graph.proofs.Pigeon.{pigeon}

-- the first node leads to each
leads_in : (g : Digraph) (a : ℕ) (l : List ℕ) (b : ℕ) → Walk g a l b → (x : ℕ) → x ∈ l → (c : ℕ) × Step g a c × Leads g c x
leads_in g a [] b w x m = elim m [ ]
leads_in g a (c ∷ l) b (s, w) x (Memᴰ.head e) = (c, s, subst (λ y. Leads g c y) (sym e) stay)
leads_in g a (c ∷ l) b (s, w) x (Memᴰ.tail m) = let (d, t, p) = leads_in g c l b w x m in (c, s, step t p)

-- without directed cycles no walk meets a node twice
pub walk_distinct : (g : Digraph) → (DirectedCycle g → ⊥) → (a : ℕ) (l : List ℕ) (b : ℕ) → Walk g a l b → Distinct (a ∷ l)
walk_distinct g free a [] b w = (λ m. elim m [ ], tt)
walk_distinct g free a (c ∷ l) b w = (λ m. free (a, leads_in g a (c ∷ l) b w a m), walk_distinct g free c l b w.1)

module _ (g : Digraph) (marked : ℕ → Bool) where
  pub alone : (x : ℕ) → x < g.nodes → marked x ≡ true → MarkedPath g marked x []
  alone x h e = record {
    end = x;
    walk = refl;
    nodes = λ y m. elim m [ Memᴰ.head q ↦ subst (λ z. (z < g.nodes) × (marked z ≡ true)) (sym q) (h, e) | Memᴰ.tail n ↦ elim n [ ] ];
  }

  pub longer : (x y : ℕ) (l : List ℕ) → marked x ≡ true → Step g x y → MarkedPath g marked y l → MarkedPath g marked x (y ∷ l)
  longer x y l e s p = record {
    end = p.end;
    walk = (s, p.walk);
    nodes = λ z m. elim m [ Memᴰ.head q ↦ subst (λ u. (u < g.nodes) × (marked u ≡ true)) (sym q) (s.from, e) | Memᴰ.tail n ↦ p.nodes z n ];
  }

  pub shorter : (x y : ℕ) (l : List ℕ) → MarkedPath g marked x (y ∷ l) → Step g x y × MarkedPath g marked y l
  shorter x y l p = (p.walk.0, record { end = p.end; walk = p.walk.1; nodes = λ z m. p.nodes z (Memᴰ.tail m) })

  -- h is the most nodes on one path of at most k marked nodes from x
  pub record Best (k x h : ℕ) : Type 0 where
    pub reached : 0 < h → (l : List ℕ) × MarkedPath g marked x l × (length (x ∷ l) ≡ h)
    pub most : (l : List ℕ) → MarkedPath g marked x l → length (x ∷ l) ≤ k → length (x ∷ l) ≤ h
    pub small : h ≤ k

  none : (x : ℕ) → Best 0 x 0
  none x = record { reached = λ h. absurd (omega arith); most = λ l p h. omega arith; small = omega arith }

  pub best_none : (n x : ℕ) → Best 0 x (get_or (replicate n 0) x 0)
  best_none n x = subst (λ h. Best 0 x h) (sym (get_or-replicate_same n x 0)) (none x)

  module _ (k : ℕ) (best : ℕ → ℕ) (all : (y : ℕ) → y < g.nodes → Best k y (best y)) (x r : ℕ) (node : x < g.nodes) (o : OneMore g marked best x r) where
    reached_on : marked x ≡ true → (r ≡ 1) ⊎ ((y : ℕ) × Step g x y × (r ≡ suc (best y))) → (l : List ℕ) × MarkedPath g marked x l × (length (x ∷ l) ≡ r)
    reached_on e (inl q) = ([], alone x node e, sym q)
    reached_on e (inr (y, s, q)) = go (cases_lt 0 (best y))
      where
        go : (0 < best y) ⊎ (best y ≤ 0) → (l : List ℕ) × MarkedPath g marked x l × (length (x ∷ l) ≡ r)
        go (inl h) = let (l, p, n) = (all y s.to).reached h in (y ∷ l, longer x y l e s p, omega arith)
        go (inr h) = ([], alone x node e, omega arith)

    most_on : marked x ≡ true → (l : List ℕ) → MarkedPath g marked x l → length (x ∷ l) ≤ k + 1 → length (x ∷ l) ≤ r
    most_on e [] p h = omega (arith, o.some e)
    most_on e (y ∷ l) p h =
        let (s, q) = shorter x y l p in
        let i = (all y s.to).most l q (omega arith) in
        omega (arith, o.above e y s)

    small_on : (r ≡ 1) ⊎ ((y : ℕ) × Step g x y × (r ≡ suc (best y))) → r ≤ k + 1
    small_on (inl q) = omega arith
    small_on (inr (y, s, q)) = omega (arith, (all y s.to).small)

    -- one round more
    pub best_more : Best (k + 1) x r
    best_more =
        ⊎_elim
        (λ e. record { reached = λ _. reached_on e (o.least e); most = most_on e; small = small_on (o.least e) })
        (λ e.
        let z = o.unmarked e in
        record {
          reached = λ h. absurd (omega arith);
          most = λ l p h. absurd (both_ways (marked x) e (p.nodes x (Memᴰ.head refl)).1);
          small = omega arith;
        })
        (cases_Bool (marked x))

  -- as many rounds as nodes
  module _ (free : DirectedCycle g → ⊥) (k n r : ℕ) (best : ℕ → ℕ) (rounds : g.nodes ≤ k) (count : n ≡ g.nodes) (all : (y : ℕ) → y < g.nodes → Best k y (best y)) (t : Largest best n r) where
    pub best_all : IsHeight g marked r
    best_all = record {
      reached =
          λ h.
          ⊎_elim (λ e. absurd (omega arith))
          (λ (y, below, e). let (l, p, q) = (all y (omega arith)).reached (omega arith) in (y, l, p, q ∙ sym e))
          t.least;
      most =
          λ a l p.
          let node = (p.nodes a (Memᴰ.head refl)).0 in
          let few = pigeon g.nodes (a ∷ l) (walk_distinct g free a l p.end p.walk) (λ x m. (p.nodes x m).0) in
          let b = (all a node).most l p (omega arith) in
          omega (arith, t.above a (omega arith));
    }

-- the largest of the first n numbers of a list
pub largest_first : (l : List ℕ) (n r : ℕ) → n ≤ length l → Largest (λ k. get_or (take n l) k 0) (length (take n l)) r → Largest (λ k. get_or l k 0) n r
largest_first l n r h t =
    let long : length (take n l) ≡ n = length-take-le n l h in
    record {
      above = λ k i. subst (λ v. v ≤ r) (get_or-take n l k 0 i) (t.above k (omega arith));
      least = ⊎_elim (λ e. inl e) (λ (k, i, e). inr (k, omega arith, e ∙ get_or-take n l k 0 (omega arith))) t.least;
    }

one_way : (g : Digraph) (marked : ℕ → Bool) (h k : ℕ) → IsHeight g marked h → IsHeight g marked k → h ≤ k
one_way g marked h k p q =
    ⊎_elim (λ i. let (a, l, c, e) = p.reached i in omega (arith, q.most a l c)) (λ i. omega arith) (cases_lt 0 h)

pub height_one : OneHeight
height_one g marked h k p q = let a = one_way g marked h k p q in let b = one_way g marked k h q p in omega arith
