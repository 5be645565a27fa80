-- Edges drawn entry by entry.
use Rattle.std.proofs.Common.{◌≡◌, ℕ, Bool, ◌&&◌, ◌||◌, eqb, List, [], ◌∷◌, ◌++◌, sym, ap, ◌∙◌, eq-eqb}
use Rattle.std.proofs.Math.Bool.{or_assoc, or-false}
use Rattle.theory.specs.Lists.{any_of}
use Rattle.ledger.specs.declared.fact.Entry.{Entry}
use Rattle.ledger.specs.declared.fact.Fact.{Fact}
use Rattle.ledger.specs.declared.fact.Fact.TheVariants.{Link}
use Rattle.names.specs.declared.Role.{Role}
use Rattle.names.specs.declared.Term.{Term}
use Rattle.shapes.specs.declared.rows.Rows.{Rows}
use Rattle.shapes.specs.Views.{tabled}
use Rattle.verdict.specs.Links.{links}

-- E of two terms is drawn as an edge between them
pub link_drawn : (b after : Bool) (f : Fact Term) (r : Role) (x y : Term) (i j : ℕ) → f ≡ Link r x y → r.number ≡ 9 → after ≡ (b || (eqb i x.number && eqb j y.number)) → after ≡ (b || links i j f)
link_drawn b after f r x y i j e n h =
    h ∙ ap (λ t. b || (t && (eqb i x.number && eqb j y.number))) (sym (eq-eqb 9 r.number (sym n))) ∙ ap (λ g. b || links i j g) (sym e)

-- The rows have so many nodes, and the edges that the entries are.
pub record Drawn (n : ℕ) (es : List Entry) (rows : Rows) : Type 0 where
  pub nodes : rows.count ≡ n
  pub edges : (i j : ℕ) → (tabled rows.rows rows.count).edge i j ≡ any_of (λ e. links i j e.fact) es

any_push : {A : Type 0} (p : A → Bool) (l : List A) (a : A) → any_of p (l ++ (a ∷ [])) ≡ (any_of p l || p a)
any_push p [] a = or-false (p a)
any_push p (b ∷ l) a = ap (λ r. p b || r) (any_push p l a) ∙ sym (or_assoc (p b) (any_of p l) (p a))

-- one entry more
pub drawn_more : (n : ℕ) (es : List Entry) (e : Entry) (before after : Rows) → Drawn n es before → after.count ≡ before.count → ((i j : ℕ) → (tabled after.rows after.count).edge i j ≡ ((tabled before.rows before.count).edge i j || links i j e.fact)) → Drawn n (es ++ (e ∷ [])) after
drawn_more n es e before after so_far same more =
    record {
      nodes = same ∙ so_far.nodes;
      edges = λ i j. more i j ∙ ap (λ b. b || links i j e.fact) (so_far.edges i j) ∙ sym (any_push (λ (d : Entry). links i j d.fact) es e);
    }
