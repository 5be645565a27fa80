-- Distinct numbers below n are at most n.
use Rattle.std.proofs.Common.{◌≡◌, ℕ, zero, suc, ◌<◌, ◌≤◌, ◌≢◌, ◌⊎◌, List, [], ◌∷◌, length, sym, refl, inl, inr, arith}
use mathlib.Core.List.Memᴰ
use Rattle.std.proofs.lemmas.Bool.{cases_eq}
use Rattle.graph.specs.Digraph.{◌∈◌, Distinct}

-- the list without n, which stands in it once at most
strike : ℕ → List ℕ → List ℕ
strike n [] = []
strike n (a ∷ l) = elim (cases_eq a n) [ inl e ↦ l | inr ne ↦ a ∷ strike n l ]

strike_in : (n : ℕ) (l : List ℕ) (x : ℕ) → x ∈ strike n l → x ∈ l
unfolding strike
strike_in n [] x m = m
strike_in n (a ∷ l) x m = go (cases_eq a n) m (λ k. strike_in n l x k)
  where
    go : (d : (a ≡ n) ⊎ (a ≡ n → ⊥)) → x ∈ (elim d [ inl e ↦ l | inr ne ↦ a ∷ strike n l ]) → (x ∈ strike n l → x ∈ l) → x ∈ (a ∷ l)
    go (inl e) k below = Memᴰ.tail k
    go (inr ne) (Memᴰ.head e) below = Memᴰ.head e
    go (inr ne) (Memᴰ.tail k) below = Memᴰ.tail (below k)

strike-length : (n : ℕ) (l : List ℕ) → length l ≤ suc (length (strike n l))
unfolding strike
strike-length n [] = omega arith
strike-length n (a ∷ l) = go (cases_eq a n) (strike-length n l)
  where
    go : (d : (a ≡ n) ⊎ (a ≡ n → ⊥)) → length l ≤ suc (length (strike n l)) → length (a ∷ l) ≤ suc (length {A = ℕ} (elim d [ inl e ↦ l | inr ne ↦ a ∷ strike n l ]))
    go (inl e) h = omega arith
    go (inr ne) h = omega arith

strike-distinct : (n : ℕ) (l : List ℕ) → Distinct l → Distinct (strike n l)
unfolding strike
strike-distinct n [] d = d
strike-distinct n (a ∷ l) d = go (cases_eq a n) (strike-distinct n l d.1)
  where
    go : (t : (a ≡ n) ⊎ (a ≡ n → ⊥)) → Distinct (strike n l) → Distinct (elim t [ inl e ↦ l | inr ne ↦ a ∷ strike n l ])
    go (inl e) h = d.1
    go (inr ne) h = (λ m. d.0 (strike_in n l a m), h)

strike_out : (n : ℕ) (l : List ℕ) → Distinct l → n ∈ strike n l → ⊥
unfolding strike
strike_out n [] d m = elim m [ ]
strike_out n (a ∷ l) d m = go (cases_eq a n) m (strike_out n l d.1)
  where
    go : (t : (a ≡ n) ⊎ (a ≡ n → ⊥)) → n ∈ (elim t [ inl e ↦ l | inr ne ↦ a ∷ strike n l ]) → (n ∈ strike n l → ⊥) → ⊥
    go (inl e) k below = d.0 (Memᴰ.cast e k)
    go (inr ne) (Memᴰ.head e) below = ne (sym e)
    go (inr ne) (Memᴰ.tail k) below = below k

pub pigeon : (n : ℕ) (l : List ℕ) → Distinct l → ((x : ℕ) → x ∈ l → x < n) → length l ≤ n
pigeon n [] d h = omega arith
pigeon zero (a ∷ l) d h = absurd (omega (arith, h a (Memᴰ.head refl)))
pigeon (suc n) (a ∷ l) d h =
    let i =
    pigeon n (strike n (a ∷ l)) (strike-distinct n (a ∷ l) d)
    (λ x m.
    let below = h x (strike_in n (a ∷ l) x m) in
    let other : x ≢ n = λ e. strike_out n (a ∷ l) d (Memᴰ.cast (sym e) m) in
    omega arith) in
    omega (arith, strike-length n (a ∷ l))
