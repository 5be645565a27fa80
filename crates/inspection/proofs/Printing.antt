-- A loop that prints one text after another.
use Rattle.std.proofs.Common.{◌≡◌, ℕ, zero, suc, ◌+◌, List, ◌++◌, sym, ap, ◌∙◌, append_assoc, append-nil, add-zero, add-suc, suc-add, zero-add, add-one}
use Rattle.theory.specs.Lists.{up_from, each}

module _ {A : Type 0} (f : ℕ → List A) where
  each_last : (from n : ℕ) → each f (up_from from (suc n)) ≡ each f (up_from from n) ++ f (from + n)
  each_last from zero = append-nil (f from) ∙ ap f (sym (add-zero from))
  each_last from (suc n) =
      ap (λ l. f from ++ l) (each_last (suc from) n ∙ ap (λ k. each f (up_from (suc from) n) ++ f k) (suc-add from n ∙ sym (add-suc from n)))
      ∙ sym (append_assoc (f from) (each f (up_from (suc from) n)) (f (from + suc n)))

  pub each_more : (n : ℕ) → each f (up_from 0 n) ++ f n ≡ each f (up_from 0 (n + 1))
  each_more n = sym (ap (λ k. each f (up_from 0 k)) (add-one n) ∙ each_last 0 n ∙ ap (λ k. each f (up_from 0 n) ++ f k) (zero-add n))
