-- Verdicts by evaluation, from the edges that judging ends with.
use Rattle.std.proofs.Common.{◌≡◌, ℕ, Bool, true, false, cond, ◌&&◌, ◌||◌, eqb, List, [], ◌∷◌, length, filter, sym, refl, ap, ◌∙◌, arith}
use Rattle.std.proofs.lemmas.Bool.Decides.{Decides-at, nat_tests}
use Rattle.graph.specs.Digraph.{Digraph}
use Rattle.theory.specs.Lists.{any_of}
use Rattle.theory.specs.Table.{Table}
use Rattle.theory.specs.WellFormed.{well_formed}
use Rattle.theory.proofs.Accepting.{well_formed_decides}
use Rattle.chase.specs.Examples.{JudgedTo}
use Rattle.chase.specs.Fact.{Fact, concept, role, edge, same_fact}
use Rattle.chase.specs.Judging.{judging_terms, judging_work, is_edge}
use Rattle.chase.specs.LawOfJudging.{Starts}
use Rattle.chase.specs.Trials.{facts_of}
use Rattle.chase.proofs.Judging.{judging_stands}
use Rattle.verdict.specs.Verdicts.{EdgesOf}

eqb_turned : (a b : ℕ) → eqb a b ≡ eqb b a
eqb_turned a b = grind (arith, nat_tests)

-- only edges are held as edges
among_edges : (i j : ℕ) (fs : List (Fact ℕ)) → any_of (same_fact (role edge i j)) fs ≡ any_of (same_fact (role edge i j)) (filter is_edge fs)
among_edges i j [] = refl
among_edges i j (concept c n ∷ fs) = among_edges i j fs
among_edges i j (role r n m ∷ fs) = go (eqb r edge) (eqb_turned edge r) (among_edges i j fs)
  where
    kept : List (Fact ℕ)
    kept = filter is_edge fs

    go : (b : Bool) → eqb edge r ≡ b → any_of (same_fact (role edge i j)) fs ≡ any_of (same_fact (role edge i j)) kept → any_of (same_fact (role edge i j)) (role r n m ∷ fs) ≡ any_of (same_fact (role edge i j)) (cond b (role r n m ∷ kept) kept)
    go true e same = ap (λ b. (eqb edge r && (eqb i n && eqb j m)) || b) same
    go false e same = ap (λ b. (b && (eqb i n && eqb j m)) || any_of (same_fact (role edge i j)) fs) e ∙ same

-- the graph with these edges
abbrev pub drawing : Table → List (Fact ℕ) → Digraph
drawing t drawn = record { nodes = length (judging_terms t); edge = λ i j. any_of (same_fact (role edge i j)) drawn }

pub drawn_edges : (t : Table) (unsafe : List ℕ) (drawn : List (Fact ℕ)) → well_formed t ≡ true → Starts t 4096 → JudgedTo t unsafe drawn → EdgesOf t (drawing t drawn)
drawn_edges t unsafe drawn ok fits judged =
    record {
      nodes = refl;
      edges = λ i j h k.
          Decides-at _ _ (sym (among_edges i j (facts_of (judging_work t 4096 100000).working.state.entries) ∙ ap (any_of (same_fact (role edge i j))) judged.edges_drawn))
          ((judging_stands t ((well_formed_decides t).0 ok)).edges_told 4096 _ (record { fits = fits; budget = 100000; quiet = judged.saturated; ends = refl }) i j h k);
    }
