use Rattle.theory.proofs.Accepting.{tests_are_true}
use Rattle.theory.proofs.tests_are_true.Goals as goal

pub returns : goal.returns
returns c = tests_are_true
