use Rattle.std.proofs.Common.{◌≡◌, ◌++◌, Some, length, is_ok, sym, ap, ◌∙◌, arith}
use lib.ListN.{length-map}
use Rattle.std.specs.List.{slice_get}
use Rattle.std.proofs.Output.{writes_in_calls_nil, has_written_append, has_written_of_eq}
use Rattle.theory.specs.Lists.{up_from, each}
use Rattle.theory.specs.Roles.{is_unsafe}
use Rattle.theory.proofs.Places.{nth_mapped}
use Rattle.layout.specs.Meaning.{axiom_in}
use Rattle.table.specs.Answers.{meaning}
use Rattle.inspection.specs.Notation.{line_or, line_text}
use Rattle.inspection.proofs.Printing.{each_more}
use Rattle.inspection.proofs.lines.AxiomLinesDisplay.fmt.Goals as goal

pub loop-k-init : goal.loop-k-init
loop-k-init g c = λ plain. record { wrote = writes_in_calls_nil g.W.Write.write_str_gives _; plain = plain }

pub loop-k-preserved : goal.loop-k-preserved
loop-k-preserved g c plain =
    let t = meaning c.args.self.now.0.now in
    let k = c.loop-k.k in
    let before = c.loop-k.invariant plain in
    let at : slice_get t.axioms k ≡ Some (axiom_in c.axiom-item.result) =
    ap (λ l. slice_get l k) (sym c.axioms-axiom-items.ensures.means) ∙ nth_mapped axiom_in c.axioms-axiom-items.result.now k c.axiom-item.result c.loop-k-test.true c.axiom-item.is in
    has_written_of_eq g.W.Write.write_str_gives _ _ _ _ (ap (λ x. each (line_text t) (up_from 0 k) ++ line_or k (is_unsafe t k) x) (sym at) ∙ each_more (line_text t) k)
    (has_written_append g.W.Write.write_str_gives _ _ _ _ _ before (c.write.ensures.writes before.plain (ap is_ok c.in_ok-write.was)))

pub returns-clause-writes : goal.returns-clause-writes
returns-clause-writes g c plain ok =
    let t = meaning c.args.self.now.0.now in
    let all : c.loop-k.k ≡ length t.axioms =
    omega (arith, length-map c.axioms-axiom-items.result.now axiom_in, ap length c.axioms-axiom-items.ensures.means) in
    has_written_of_eq g.W.Write.write_str_gives _ _ _ _ (ap (λ n. each (line_text t) (up_from 0 n)) all) (c.loop-k.invariant plain)
