-- The largest number of those that pass, over the numbers below n.
use Rattle.std.proofs.Common.{◌≡◌, ℕ, zero, suc, ◌+◌, ◌<◌, ◌≤◌, nat_lt, ◌&&◌, max, Bool, true, false, cond, ◌⊎◌, List, [], ◌∷◌, map, filter, Option, Some, None, refl, sym, subst, ap, ◌∙◌, inl, inr, ⊎_elim, arith}
use Rattle.std.specs.List.{range_with_len, fold, reduce}
use Rattle.std.specs.Option.{option_map, unwrap_or}
use Rattle.graph.specs.Digraph.{Digraph}
use Rattle.shapes.specs.Heights.{BestAfter}

module _ (f : ℕ → ℕ) (p : ℕ → Bool) where
  -- r is the largest of `start` and of f at what passes from a on and below b
  record Picked (a b start r : ℕ) : Type 0 where
    pub first : start ≤ r
    pub above : (y : ℕ) → a ≤ y → y < b → p y ≡ true → f y ≤ r
    pub one : (r ≡ start) ⊎ ((y : ℕ) × (y < b) × (p y ≡ true) × (r ≡ f y))

  picked_none : (a b start : ℕ) → b ≤ a → Picked a b start start
  picked_none a b start h = record { first = omega arith; above = λ y i j e. absurd (omega arith); one = inl refl }

  picked_more : (a b start r : ℕ) → a < b → p a ≡ true → Picked (a + 1) b (max start (f a)) r → Picked a b start r
  picked_more a b start r h e q = record { first = grind (arith, q.first); above = λ y i j t. grind (arith, q.first, q.above y); one = grind (arith, q.one) }

  picked_past : (a b start r : ℕ) → p a ≡ false → Picked (a + 1) b start r → Picked a b start r
  picked_past a b start r e q = record { first = q.first; above = λ y i j t. grind (arith, q.above y); one = q.one }

  -- what the largest of a list made from the numbers from a on is
  picked : (a n start : ℕ) → Picked a (a + n) start (fold max start (map f (filter p (range_with_len a n))))
  picked a zero start = picked_none a (a + zero) start (omega arith)
  picked a (suc n) start = go (p a) refl (λ s. subst (λ b. Picked (a + 1) b s (fold max s (map f (filter p (range_with_len (a + 1) n))))) (omega arith) (picked (a + 1) n s))
    where
      go :
          (b : Bool)
          → p a ≡ b
          → ((s : ℕ) → Picked (a + 1) (a + suc n) s (fold max s (map f (filter p (range_with_len (a + 1) n)))))
          → Picked a (a + suc n) start (fold max start (map f (cond b (a ∷ filter p (range_with_len (a + 1) n)) (filter p (range_with_len (a + 1) n)))))
      go true e rest = picked_more a (a + suc n) start _ (omega arith) e (rest (max start (f a)))
      go false e rest = picked_past a (a + suc n) start _ e (rest start)

largest_fold : (l : List ℕ) (r : Option ℕ) → option_map (λ v. v) r ≡ reduce max l → unwrap_or r 0 ≡ fold max 0 l
largest_fold [] None e = refl
largest_fold [] (Some v) e = absurd (cc)
largest_fold (y ∷ l) None e = absurd (cc)
largest_fold (y ∷ l) (Some v) e = let first : max 0 y ≡ y = omega arith in let q : v ≡ fold max y l = cc in q ∙ ap (λ k. fold max k l) (sym first)

second : (b c : Bool) → (b && c) ≡ true → c ≡ true
second true c e = e
second false c e = absurd (cc)

pub best_by :
    (g : Digraph) (best : ℕ → ℕ) (x n : ℕ) (r : Option ℕ) (m : ℕ)
    → x < g.nodes
    → n ≡ g.nodes
    → option_map (λ v. v) r ≡ reduce max (map best (filter (λ y. nat_lt 0 (best y) && g.edge x y) (range_with_len 0 n)))
    → m ≡ unwrap_or r 0
    → BestAfter g best x m
best_by g best x n r m h same e is =
    let p : ℕ → Bool = λ y. nat_lt 0 (best y) && g.edge x y in
    let q = subst (λ v. Picked best p 0 (0 + n) 0 v) (sym (is ∙ largest_fold _ r e)) (picked best p 0 n 0) in
    record {
      above = λ y s. let i = s.to in let more = q.above y (omega arith) (omega arith) in let run = s.runs in grind (arith, more, run);
      least = ⊎_elim (λ z. inl z) (λ (y, i, t, z). inr (y, record { from = h; to = omega arith; runs = second (nat_lt 0 (best y)) (g.edge x y) t }, z)) q.one;
    }
