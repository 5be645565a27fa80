-- What arrays hold: one value everywhere, or what `array::from_fn` makes of a closure that its calls leave as it was.
use Rattle.std.proofs.Common.{◌≡◌, ℕ, zero, suc, ◌+◌, ◌<◌, ◌≤◌, List, get_or, replicate, ⊎_elim, subst, sym, arith}
use Rattle.std.proofs.lemmas.Bool.{cases_eq, cases_lt}
use Rattle.std.proofs.lemmas.List.{get_or-replicate, get_or_past, length-replicate}
use Rattle.std.specs.Array.{IsFromFnResult, IsFromFnResultFrom}
use denote.Param.Members.{Mut, Called}

-- one value everywhere
pub get_or-replicate_same : {X : Type 0} (n i : ℕ) (x : X) → get_or (replicate n x) i x ≡ x
get_or-replicate_same n i x =
    ⊎_elim (λ h. get_or-replicate n i x x h) (λ h. let e = length-replicate n x in get_or_past (replicate n x) i x (omega arith)) (cases_lt i n)

module _ {F B : Type 0} (g : Mut F (ℕ × Unit {0}) B) (P : ℕ → B → Type 0) (f : F) (one : (k : ℕ) (y : B) (q : F) → Called g f (k, tt) y q → P k y × (q ≡ f)) where
  each_from : (ys : List B) (i n : ℕ) → IsFromFnResultFrom g f ys i n → (k : ℕ) → i ≤ k → k < i + n → (d : B) → P k (get_or ys k d)
  each_from ys i zero m k low high d = absurd (omega arith)
  each_from ys i (suc n) (q, y, here, call, rest) k low high d =
      let (p, same) = one i y q call in
      ⊎_elim
      (λ (e : k ≡ i). subst (λ j. P j (get_or ys j d)) (sym e) (subst (λ v. P i v) (sym (here.1 d)) p))
      (λ ne. each_from ys (i + 1) n (subst (λ s. IsFromFnResultFrom g s ys (i + 1) n) same rest) k (omega arith) (omega arith) d)
      (cases_eq k i)

  -- each element is what a call at its index gives
  pub made_each : {ys : List B} {n : ℕ} → IsFromFnResult g f ys n → (k : ℕ) → k < n → (d : B) → P k (get_or ys k d)
  made_each {ys} {n} m k h d = each_from ys 0 n m.each k (omega arith) (omega arith) d
