-- The marked verdicts, proved from the definitions.
use Rattle.std.proofs.Common.{◌≡◌, ℕ, true, List, [], ◌∷◌, length, sym, refl, ap, lit≤}
use Rattle.shapes.specs.declared.shape.Shape.{Shape}
use Rattle.shapes.specs.Surveys.{Surveyed}
use Rattle.shapes.proofs.Computing.{shape_computes, height_computes}
use Rattle.theory.specs.Table.{Table}
use Rattle.theory.specs.WellFormed.{well_formed}
use Rattle.theory.proofs.Accepting.{well_formed_decides}
use Rattle.layout.proofs.Writing.{table_read_back}
use Rattle.chase.specs.Examples.{JudgedTo, lodge, one_way, loop, two_levels}
use Rattle.chase.specs.Fact.{Fact, role, edge}
use Rattle.chase.specs.LawOfJudging.{Starts}
use Rattle.chase.proofs.Evaluate.{examples}
use Rattle.verdict.specs.Marked.{MarkedVerdicts, found}
use Rattle.verdict.specs.Verdicts.{VerdictOf, unsafe_node}
use Rattle.verdict.proofs.Computing.{drawing, drawn_edges}

-- the verdict on a table that is judged to these unsafe axioms and edges, by the survey of the drawing
judged_so : (t : Table) (unsafe : List ℕ) (drawn : List (Fact ℕ)) (s : Shape) (h : ℕ) → well_formed t ≡ true → Starts t 4096 → JudgedTo t unsafe drawn → Surveyed (drawing t drawn) (unsafe_node t) s h → VerdictOf t (found s h (length unsafe))
judged_so t unsafe drawn s h ok fits judged surveyed =
    record { graph = drawing t drawn; edges = drawn_edges t unsafe drawn ok fits judged; surveyed = surveyed; counted = sym (ap length judged.unsafe_ones) }

-- by computation: a shape and a height that compute are those that are claimed
pub marked : MarkedVerdicts
marked =
    let l = drawing lodge [] in
    let o = drawing one_way [] in
    let r = drawing loop (role edge 1 1 ∷ []) in
    let w = drawing two_levels (role edge 1 3 ∷ role edge 1 4 ∷ role edge 2 3 ∷ role edge 2 4 ∷ []) in
    record {
      lodge_long = refl;
      lodge_read = table_read_back lodge ((well_formed_decides lodge).0 refl);
      lodge = judged_so lodge _ _ _ _ refl (lit≤ tt) examples.lodge_judged (shape_computes l, height_computes l _ (shape_computes l).0);
      one_way = judged_so one_way _ _ _ _ refl (lit≤ tt) examples.one_way_judged (shape_computes o, height_computes o _ (shape_computes o).0);
      loop = judged_so loop _ _ _ _ refl (lit≤ tt) examples.loop_judged (shape_computes r, refl);
      two_levels = judged_so two_levels _ _ _ _ refl (lit≤ tt) examples.two_levels_judged (shape_computes w, height_computes w _ (shape_computes w).0);
    }
