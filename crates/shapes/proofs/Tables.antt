-- A table of rows: no edge, and one edge more.
use Rattle.std.proofs.Common.{◌≡◌, ℕ, ◌<◌, Bool, false, ◌&&◌, ◌||◌, eqb, ◌⊎◌, List, [], length, get_or, set, replicate, ap, ◌∙◌, inl, inr, ⊎_elim, arith, get_or-set_other, get_or-set_same}
use mathlib.Core.Path.{fun_ext}
use Rattle.std.proofs.lemmas.Bool.{cases_lt}
use Rattle.std.proofs.lemmas.Bool.Decides.{nat_tests}
use Rattle.std.proofs.lemmas.List.{get_or-replicate, get_or_past, length-replicate}
use Rattle.graph.specs.Digraph.{Digraph}
use Rattle.graph.proofs.Made.{get_or-replicate_same}
use Rattle.shapes.specs.Views.{tabled, edgeless, with_edge}

same_edges : (n : ℕ) (e f : ℕ → ℕ → Bool) → ((x y : ℕ) → e x y ≡ f x y) → ◌≡◌ {A = Digraph} (record { nodes = n; edge = e }) (record { nodes = n; edge = f })
same_edges n e f h = ap (λ (d : ℕ → ℕ → Bool). record { nodes = n; edge = d }) (fun_ext (λ x. fun_ext (λ y. h x y)))

-- a row is blank, or past the last
blank : (m k x : ℕ) → (get_or (replicate m (replicate k false)) x [] ≡ replicate k false) ⊎ (get_or (replicate m (replicate k false)) x [] ≡ [])
blank m k x =
    let long = length-replicate m (replicate k false) in
    ⊎_elim (λ h. inl (get_or-replicate m x (replicate k false) [] h)) (λ h. inr (get_or_past (replicate m (replicate k false)) x [] (omega arith))) (cases_lt x m)

pub tabled_none : (m k n : ℕ) → tabled (replicate m (replicate k false)) n ≡ edgeless n
tabled_none m k n =
    same_edges n _ _
    (λ x y. ⊎_elim (λ e. ap (λ r. get_or r y false) e ∙ get_or-replicate_same k y false) (λ e. ap (λ r. get_or r y false) e) (blank m k x))

module _ (rows : List (List Bool)) (row : List Bool) (n a b : ℕ) (fits : a < length rows) (one : (k : ℕ) → get_or row k false ≡ (get_or (get_or rows a []) k false || eqb k b)) where
  drawn : (x y : ℕ) → get_or (get_or (set rows a row) x []) y false ≡ (get_or (get_or rows x []) y false || (eqb x a && eqb y b))
  drawn x y = grind (arith, nat_tests, get_or-set_same, get_or-set_other)

  -- one edge more in a table
  pub tabled_more : tabled (set rows a row) n ≡ with_edge (tabled rows n) a b
  tabled_more = same_edges n _ _ drawn
