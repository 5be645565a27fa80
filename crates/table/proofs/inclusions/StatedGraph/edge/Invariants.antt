use Rattle.theory.specs.Roles.{includes_by}
use Rattle.table.proofs.Scanning.{Left}
use Rattle.layout.specs.Meaning.{axiom_in}
use Rattle.table.specs.Meaning.{expression_in}
use Rattle.table.proofs.inclusions.StatedGraph.edge.Given as goal

abbrev pub invariant-loop-axiom : goal.invariant-loop-axiom
invariant-loop-axiom l = Left (includes_by (expression_in l.lower) (expression_in l.upper)) axiom_in l.self.axioms.now l.axiom-index
