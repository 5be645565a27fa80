-- What is known of a well-formed table.
use Rattle.std.proofs.Common.{◌≡◌, ℕ, ◌<◌, ◌≤◌, Bool, true, false, ◌⊎◌, Decides, Option, None, Some, refl, ap, subst, inl, inr, ⊎_elim, arith}
use Rattle.std.specs.Option.{MatchOption}
use Rattle.std.proofs.lemmas.Bool.{both_ways, cases_lt}
use Rattle.std.proofs.lemmas.Bool.Decides.{Decides-like}
use Rattle.table.specs.declared.expression.Expression as stated
use Rattle.table.specs.declared.expression.Expression.TheVariants.{Plain, Inverse}
use Rattle.table.specs.contracts.expression.ExpressionPartialEq.TheImpl.{ghosts}
use Rattle.table.specs.Meaning.{expression_in}
use Rattle.theory.specs.Table.{Table}
use Rattle.theory.specs.Roles.{Expression, name_of, Included, same, more, Simple, same_expression}
use Rattle.theory.specs.WellFormed.{Declared, well_formed}
use Rattle.theory.proofs.Accepting.{well_formed_decides}
use Rattle.theory.proofs.Deciding.{same_expression_decides, transitive_declared}
use Rattle.theory.proofs.Forms.{inclusion_names}

-- a search of what may be there, by both cases
pub by_option : {A G P : Type 0} {Q : A → Type 0} (o : Option A) → MatchOption o P Q → (o ≡ None → P → G) → ((x : A) → o ≡ Some x → Q x → G) → G
by_option None m none some = none refl m
by_option (Some x) m none some = some x refl m

-- what is not below a limit by a test
pub not_below : (b : Bool) (n m : ℕ) → Decides b (n < m) → b ≡ false → m ≤ n
not_below b n m d e = ⊎_elim (λ h. absurd (both_ways b e (d.1 h))) (λ h. h) (cases_lt n m)

pub sound_declared : (t : Table) → well_formed t ≡ true → Declared t
sound_declared t e = ((well_formed_decides t).0 e).declared

module _ (t : Table) (declared : Declared t) where
  -- only declared expressions are included in others
  ends : {e f : Expression} → Included t e f → (e ≡ f) ⊎ ((name_of e < t.roles) × (name_of f < t.roles))
  ends same = inl refl
  ends (more {e} {f} {g} a m i rest) =
      let (h, k) = inclusion_names t a e f (declared a m) i in
      ⊎_elim (λ q. inr (h, subst (λ x. name_of x < t.roles) q k)) (λ (_, l). inr (h, l)) (ends rest)

  pub undeclared_includes : (e f : Expression) → (name_of e < t.roles → name_of f < t.roles → ⊥) → Decides (same_expression e f) (Included t e f)
  undeclared_includes e f out =
      Decides-like (same_expression e f) (λ q. subst (λ x. Included t e x) q same) (λ i. ⊎_elim (λ q. q) (λ (h, k). absurd (out h k)) (ends i))
      (same_expression_decides e f)

  pub undeclared_simple : (s : ℕ) → t.roles ≤ s → Simple t s
  undeclared_simple s h e i m =
      let low = transitive_declared t declared (name_of e) m in
      ⊎_elim (λ q. let n = ap name_of q in omega arith) (λ (_, k). omega arith) (ends i)

-- two expressions are one by their derived test
pub eq_same : (e f : stated.Expression) → ghosts.eq e f ≡ same_expression (expression_in e) (expression_in f)
eq_same (Plain p) (Plain q) = refl
eq_same (Plain p) (Inverse q) = refl
eq_same (Inverse p) (Plain q) = refl
eq_same (Inverse p) (Inverse q) = refl
