-- Marks by term number.
use Rattle.std.proofs.Common.{◌≡◌, ℕ, ◌<◌, ◌≤◌, Bool, Bor, false, List, [], length, get_or, Option, Some, None, sym, ap, ◌∙◌, ⊎_elim, arith, zero-add}
use Rattle.std.specs.Option.{IfSome, MatchOption}
use Rattle.std.specs.List.{HoldsAt}
use Rattle.std.proofs.lemmas.List.{get_or_past}
use Rattle.std.proofs.lemmas.Bool.{cases_lt}
use Rattle.theory.specs.Table.{Table}
use Rattle.chase.specs.Judging.{unsafe_term}
use Rattle.chase.specs.Term.{Term, individual}
use Rattle.chase.specs.Trials.{term_at}
use Rattle.trial.specs.declared.row.Row.{Row}
use Rattle.trial.specs.declared.terms.Terms.{Terms}
use Rattle.trial.specs.Nesting.{row_in}
use Rattle.trial.specs.Rows.{rows_of, terms_in}
use Rattle.trial.proofs.Finding.{at_row, length-listed}

-- no term is listed past the last row
none_there : (t : Table) (l : Terms) (k : ℕ) → length (rows_of l) ≤ k → false ≡ unsafe_term t (term_at (terms_in l) k)
none_there t l k h = ap (unsafe_term t) (sym (get_or_past (terms_in l) k (individual 0) (omega (arith, length-listed [] (rows_of l)))))

-- the term at the place of a row is the row's
row_there : (l : Terms) → (k : ℕ) (r : Row) → k < length (rows_of l) → r ≡ get_or (rows_of l) k r → row_in (terms_in l) r ≡ term_at (terms_in l) k
row_there l k r h e = ap (row_in (terms_in l)) e ∙ sym (at_row [] (rows_of l) l.grounded k r h) ∙ ap (term_at (terms_in l)) (zero-add k)

-- what is told of the row got at a number, and false where there is none
pub marked_at : (t : Table) (l : Terms) (k : ℕ) (rows : List Row) (o : Option (Bor Row)) (r : Bool) (P : Bor Row → Type 0) → rows ≡ rows_of l → IfSome o (λ x. x.now ≡ get_or rows k x.now) → MatchOption o (length rows ≤ k) (λ x. (k < length rows) × HoldsAt (λ y. x.now ≡ y) rows k)
    → MatchOption o (r ≡ false) P → ((x : Bor Row) → P x → r ≡ unsafe_term t (row_in (terms_in l) x.now)) → r ≡ unsafe_term t (term_at (terms_in l) k)
marked_at t l k rows None r P same there far is told = is ∙ none_there t l k (omega (arith, far, ap length same))
marked_at t l k rows (Some x) r P same there near is told =
    told x is ∙ ap (unsafe_term t) (row_there l k x.now (omega (arith, near.0, ap length same)) (there ∙ ap (λ rs. get_or rs k x.now) same))

-- no mark is set past the last
pub marks_past : (t : Table) (ts : List Term) (marks : List Bool) → length marks ≡ 48 → length ts ≤ 48 → ((k : ℕ) → k < 48 → get_or marks k false ≡ unsafe_term t (term_at ts k)) → (k : ℕ) → get_or marks k false ≡ unsafe_term t (term_at ts k)
marks_past t ts marks long few so_far k =
    ⊎_elim (so_far k) (λ far. get_or_past marks k false (omega arith) ∙ ap (unsafe_term t) (sym (get_or_past ts k (individual 0) (omega arith)))) (cases_lt k 48)
