use Rattle.std.proofs.Common.{arith, get_or-set_same, get_or-set_other}
use Rattle.std.proofs.lemmas.Bool.Decides.{nat_tests}
use Rattle.shapes.proofs.rows.mark.Goals as goal

pub returns : goal.returns
returns c = grind (arith, nat_tests, get_or-set_same, get_or-set_other)
