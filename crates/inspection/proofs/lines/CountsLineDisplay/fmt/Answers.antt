use Rattle.std.proofs.Common.{◌≡◌, ℕ}
use Rattle.std.proofs.Output.{has_written_of_eq}
use Rattle.inspection.specs.Notation.{counts_line}
use Rattle.inspection.proofs.lines.CountsLineDisplay.fmt.Goals as goal

same_line : {s r u w s' r' u' w' : ℕ} → s ≡ s' → r ≡ r' → u ≡ u' → w ≡ w' → counts_line s r u w ≡ counts_line s' r' u' w'
same_line a b c d i = counts_line (a i) (b i) (c i) (d i)

pub returns-clause-writes : goal.returns-clause-writes
returns-clause-writes g c plain ok =
    has_written_of_eq g.W.Write.write_str_gives _ _ _ _
    (same_line c.simple_roles-simple.ensures c.sizes-roles.ensures.roles c.unsafe_axioms-unsafe_axioms.ensures c.witness_axioms-witnesses.ensures)
    (c.writeln.ensures.writes plain ok)
