-- The marked verdicts.
use Rattle.std.specs.Prelude.{◌≡◌, ℕ, length}
use Rattle.layout.specs.Checking.{checked, accepted}
use Rattle.layout.specs.Encoding.{encode}
use Rattle.shapes.specs.declared.shape.Shape.{Shape}
use Rattle.shapes.specs.declared.shape.Shape.TheVariants.{Forest, Acyclic, Cyclic}
use Rattle.chase.specs.Examples as tables
use Rattle.verdict.specs.declared.verdict.Verdict.{Verdict}
use Rattle.verdict.specs.Verdicts.{VerdictOf}

abbrev pub found : Shape → ℕ → ℕ → Verdict
found s h u = record { shape = s; height = h; unsafe_axioms = u }

pub record MarkedVerdicts : Type 0 where
  pub lodge_long : length (encode tables.lodge) ≡ 78
  pub lodge_read : checked (encode tables.lodge) ≡ accepted tables.lodge
  pub lodge : VerdictOf tables.lodge (found Forest 1 1)
  pub one_way : VerdictOf tables.one_way (found Forest 0 0)
  pub loop : VerdictOf tables.loop (found Cyclic 0 1)
  pub two_levels : VerdictOf tables.two_levels (found Acyclic 2 4)
