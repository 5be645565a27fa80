use Rattle.std.proofs.Common.{sym}
use Rattle.theory.specs.Roles.{includes_by}
use Rattle.table.proofs.Scanning.{item_found, item_more, scan_all}
use Rattle.layout.specs.Meaning.{axiom_in}
use Rattle.table.specs.Meaning.{expression_in}
use Rattle.table.proofs.inclusions.StatedGraph.edge.Goals as goal

pub returns-then-includes : goal.returns-then-includes
returns-then-includes c =
    let found = item_found (includes_by (expression_in c.expression_at-lower.result) (expression_in c.expression_at-upper.result)) axiom_in c.args.self.now.axioms.now c.loop-axiom.axiom-index c.axiom-item.result c.loop-axiom-test.true c.axiom-item.is c.loop-axiom.invariant (sym c.if-includes.ensures) in
    sym (simp (c.expression_at-lower.ensures, c.expression_at-upper.ensures) at found)

pub loop-axiom-preserved : goal.loop-axiom-preserved
loop-axiom-preserved c =
    item_more (includes_by (expression_in c.expression_at-lower.result) (expression_in c.expression_at-upper.result)) axiom_in c.args.self.now.axioms.now c.loop-axiom.axiom-index c.axiom-item.result c.loop-axiom-test.true c.axiom-item.is c.loop-axiom.invariant (sym c.if-includes.ensures)

pub returns : goal.returns
returns c =
    let none = scan_all (includes_by (expression_in c.expression_at-lower.result) (expression_in c.expression_at-upper.result)) axiom_in c.args.self.now.axioms.now c.loop-axiom.axiom-index c.loop-axiom-test.false c.loop-axiom.invariant in
    sym (simp (c.expression_at-lower.ensures, c.expression_at-upper.ensures) at none)
