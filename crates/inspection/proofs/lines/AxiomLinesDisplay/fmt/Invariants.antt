use Rattle.std.specs.Fmt.{IsPlainFormatter, HasWritten}
use Rattle.theory.specs.Lists.{up_from, each}
use Rattle.table.specs.Answers.{meaning}
use Rattle.inspection.specs.Notation.{line_text}
use Rattle.inspection.proofs.lines.AxiomLinesDisplay.fmt.Given as goal

abbrev pub invariant-loop-k : goal.invariant-loop-k
invariant-loop-k g l =
    IsPlainFormatter l.initial.f → HasWritten g.W.Write.write_str_gives l.initial.f (each (line_text (meaning l.table)) (up_from 0 l.k)) l.f
