-- A line whose words fit is taken, unless it stands among the earlier ones.
use Rattle.std.proofs.Common.{◌≡◌, ℕ, Bool, true, cond, ◌&&◌, eqb, List, Some, None, Option, ap, ◌∙◌, subst, arith}
use Rattle.std.proofs.lemmas.Bool.{cond-false, not_from_true}
use Rattle.std.proofs.lemmas.Bool.Decides.{nat_tests}
use Rattle.theory.specs.Lists.{any_of}
use Rattle.theory.specs.Table as theory
use Rattle.theory.specs.Table.{Table, line, axiom_of, same_line}
use Rattle.layout.specs.declared.axiom.Axiom.{Axiom}
use Rattle.layout.specs.declared.line.Line.{Line}
use Rattle.layout.specs.declared.refusal.Refusal.TheVariants.{Repeated}
use Rattle.layout.specs.Forms.{fits_line}
use Rattle.layout.specs.Limits.{line_refusal, WordsSay}
use Rattle.layout.specs.Meaning.{axiom_in, line_in}
use Rattle.layout.proofs.Fitting.{fits_has_kinds}

equal_turned : (a b : ℕ) → eqb a b ≡ eqb b a
equal_turned a b = grind (arith, nat_tests)

-- two lines are one, either way round
pub same_turned : (k l : Line) → (eqb k.form l.form && (eqb k.p l.p && (eqb k.q l.q && (eqb k.r l.r && eqb k.s l.s)))) ≡ same_line (line_in l) (line_in k)
same_turned k l = cc (equal_turned k.form l.form, equal_turned k.p l.p, equal_turned k.q l.q, equal_turned k.r l.r, equal_turned k.s l.s)

-- the axiom that a line says by its own form code
module _ (t : Table) (l : Line) (code : ℕ) (a : Axiom) (same : code ≡ l.form) (o : Option Axiom) (is : o ≡ Some a) (says : WordsSay t code (line_in l) o) where
  said : (fits_line t (line_in l) ≡ true) × (axiom_of (line_in l) ≡ Some (axiom_in a))
  said =
      subst (λ f. (fits_line t (line f l.p l.q l.r l.s) ≡ true) × (axiom_of (line f l.p l.q l.r l.s) ≡ Some (axiom_in a))) same
      (subst (λ o. WordsSay t code (line_in l) o) is says)

  pub says_axiom : axiom_of (line_in l) ≡ Some (axiom_in a)
  says_axiom = said.1

  pub only_repeated : (earlier : List theory.Line) (k : ℕ) (b : Bool) → any_of (same_line (line_in l)) earlier ≡ b → line_refusal t earlier k (line_in l) ≡ cond b (Some (Repeated k)) None
  only_repeated earlier k b e =
      cond-false _ _ _ (not_from_true _ (fits_has_kinds t (line_in l) said.0)) ∙ cond-false _ _ _ (not_from_true _ said.0)
      ∙ ap (λ b. cond b (Some (Repeated k)) None) e
