-- A loop over axioms that looks for one that passes.
use Rattle.std.proofs.Common.{◌≡◌, ℕ, ◌+◌, ◌<◌, ◌≤◌, Bool, true, false, ◌||◌, List, map, length, get_or, drop, sym, ap, ◌∙◌}
use Rattle.std.proofs.lemmas.List.{at_drop_more, at_drop_all}
use Rattle.std.proofs.lemmas.Bool.{or_left}
use Rattle.theory.specs.Lists.{any_of}

-- what is left to look at tells as much as all
abbrev pub Left : {A B : Type 0} → (B → Bool) → (A → B) → List A → ℕ → Type 0
Left p f xs i = any_of p (map f (drop i xs)) ≡ any_of p (map f xs)

module _ {A B : Type 0} (p : B → Bool) (f : A → B) (xs : List A) (i : ℕ) where
  pub scan_found : (d : A) → i < length xs → Left p f xs i → p (f (get_or xs i d)) ≡ true → any_of p (map f xs) ≡ true
  scan_found d h left e = sym left ∙ at_drop_more (λ l. any_of p (map f l)) xs i d h ∙ or_left _ _ e

  pub scan_more : (d : A) → i < length xs → Left p f xs i → p (f (get_or xs i d)) ≡ false → Left p f xs (i + 1)
  scan_more d h left e =
      ap (λ b. b || any_of p (map f (drop (i + 1) xs))) (sym e) ∙ sym (at_drop_more (λ l. any_of p (map f l)) xs i d h) ∙ left

  pub scan_all : length xs ≤ i → Left p f xs i → any_of p (map f xs) ≡ false
  scan_all h left = sym left ∙ at_drop_all (λ l. any_of p (map f l)) xs i h

  -- the same where the element goes by a name
  pub item_found : (x : A) → i < length xs → x ≡ get_or xs i x → Left p f xs i → p (f x) ≡ true → any_of p (map f xs) ≡ true
  item_found x h is left e = scan_found x h left (ap (λ y. p (f y)) (sym is) ∙ e)

  pub item_more : (x : A) → i < length xs → x ≡ get_or xs i x → Left p f xs i → p (f x) ≡ false → Left p f xs (i + 1)
  item_more x h is left e = scan_more x h left (ap (λ y. p (f y)) (sym is) ∙ e)
