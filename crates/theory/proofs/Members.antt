-- Tests of each element of a list.
use Rattle.std.proofs.Common.{◌≡◌, Bool, true, List, [], ◌∷◌, Decides, sym, refl, ap, ◌∙◌, ⊎_elim}
use mathlib.Core.List.Memᴰ
use Rattle.std.proofs.lemmas.Bool.{both_ways, or_cases, or_left, or_right, and_parts, and_from}
use Rattle.theory.specs.Lists.{◌∈◌, any_of, all_of}

pub any_of_decides : {A : Type 0} (p : A → Bool) (l : List A) → Decides (any_of p l) ((a : A) × (a ∈ l) × (p a ≡ true))
any_of_decides p [] = (λ e. absurd (both_ways _ refl e), λ (a, m, e). elim m [ ])
any_of_decides p (b ∷ l) =
    let below = any_of_decides p l in (
      λ e.
          ⊎_elim (λ q. (b, Memᴰ.head refl, q)) (λ q. let (a, m, r) = below.0 q in (a, Memᴰ.tail m, r))
          (or_cases (p b) (any_of p l) e),
      λ (a, m, q). found a m q below.1,
    )
  where
    found : (a : _) → a ∈ (b ∷ l) → p a ≡ true → ((a : _) × (a ∈ l) × (p a ≡ true) → any_of p l ≡ true) → any_of p (b ∷ l) ≡ true
    found a (Memᴰ.head e) q below = or_left _ _ (sym (ap p e) ∙ q)
    found a (Memᴰ.tail m) q below = or_right (p b) _ (below (a, m, q))

pub all_of_decides : {A : Type 0} (p : A → Bool) (l : List A) → Decides (all_of p l) ((a : A) → a ∈ l → p a ≡ true)
all_of_decides p [] = (λ _ a m. elim m [ ], λ _. refl)
all_of_decides p (b ∷ l) =
    let below = all_of_decides p l in (
      λ e. let (u, v) = and_parts (p b) (all_of p l) e in λ a m. each a m u (below.0 v),
      λ h. and_from _ _ (h b (Memᴰ.head refl)) (below.1 (λ a m. h a (Memᴰ.tail m))),
    )
  where
    each : (a : _) → a ∈ (b ∷ l) → p b ≡ true → ((a : _) → a ∈ l → p a ≡ true) → p a ≡ true
    each a (Memᴰ.head e) u below = ap p e ∙ u
    each a (Memᴰ.tail m) u below = below a m
