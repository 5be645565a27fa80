use Rattle.std.proofs.Common.{◌<◌, ◌≤◌, [], ◌∷◌, ◌++◌, length, take, sym, refl, ap, ◌∙◌, subst, arith, take_all}
use Rattle.std.proofs.lemmas.List.{take_more}
use Rattle.std.proofs.lemmas.Option.{slice_get_within, get_or_from_slice_get}
use Rattle.graph.specs.Digraph.{Digraph}
use Rattle.theory.proofs.Places.{nth_some, no_some}
use Rattle.shapes.specs.declared.rows.Rows.{Rows}
use Rattle.shapes.specs.Views.{tabled}
use Rattle.verdict.proofs.Drawing.{Drawn, drawn_more}
use Rattle.verdict.proofs.edges.read_edges.Goals as goal
use Rattle.verdict.proofs.edges.read_edges.Goals.{in-Some, in_default}

pub loop-k-init : goal.loop-k-init
loop-k-init g c = record { nodes = refl; edges = λ i j. ap (λ (d : Digraph). d.edge i j) c.up_to-rows.ensures }

pub loop-k-preserved : goal.loop-k-preserved
loop-k-preserved g c =
    let es = g.L.Ledger.entries c.args.ledger.now in
    elim c.match-entry_at.branch [
      | in-Some w ↦
          let at = sym c.entry_at.ensures ∙ w.in-Some.is in
          let entry = w.in-Some.entry in
          let one_more = take_more es c.loop-k.k entry (slice_get_within es c.loop-k.k entry at) ∙ ap (λ e. take c.loop-k.k es ++ e ∷ []) (get_or_from_slice_get es c.loop-k.k entry entry at) in
          subst (λ l. Drawn c.up_to-rows.result.count l c.match-entry_at.rows) (sym one_more)
          (drawn_more c.up_to-rows.result.count (take c.loop-k.k es) entry c.loop-k.rows c.match-entry_at.rows c.loop-k.invariant (ap (λ (r : Rows). r.count) w.rows-is ∙ w.draw.ensures.nodes)
          (λ i j. ap (λ (r : Rows). (tabled r.rows r.count).edge i j) w.rows-is ∙ w.draw.ensures.edges i j))
      | in_default w ↦
          let low : c.loop-k.k < length es = omega (arith, c.count-k-end.ensures) in
          let (a, at) = nth_some es c.loop-k.k low in
          no_some (sym (sym c.entry_at.ensures ∙ w.in_default.is) ∙ at)
    ]

pub returns : goal.returns
returns g c =
    let es = g.L.Ledger.entries c.args.ledger.now in
    let all : length es ≤ c.loop-k.k = omega (arith, c.count-k-end.ensures, c.loop-k-test.false) in
    let drawn = subst (λ l. Drawn c.up_to-rows.result.count l c.loop-k.rows) (take_all c.loop-k.k es all) c.loop-k.invariant in
    record { nodes = drawn.nodes ∙ ap (λ (d : Digraph). d.nodes) c.up_to-rows.ensures; edges = drawn.edges }
