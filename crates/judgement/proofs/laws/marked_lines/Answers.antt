use Rattle.std.proofs.Common.{refl, lit<, lit≤}
use Rattle.shapes.specs.declared.shape.Shape.TheVariants.{Forest, Acyclic, Cyclic}
use Rattle.chase.specs.Examples.{lodge, one_way, loop, two_levels}
use Rattle.chase.proofs.Evaluate.{examples}
use Rattle.verdict.proofs.Marking.{marked}
use Rattle.judgement.proofs.Marking.{line_of}
use Rattle.judgement.proofs.laws.marked_lines.Goals as goal

pub returns : goal.returns
returns c = record {
  lodge_long = refl;
  lodge = line_of lodge Forest 1 1 _ _ (lit< tt) (lit< tt) refl (lit≤ tt) marked.lodge examples.lodge_judged;
  one_way = line_of one_way Forest 0 0 _ _ (lit< tt) (lit< tt) refl (lit≤ tt) marked.one_way examples.one_way_judged;
  loop = line_of loop Cyclic 0 1 _ _ (lit< tt) (lit< tt) refl (lit≤ tt) marked.loop examples.loop_judged;
  two_levels = line_of two_levels Acyclic 2 4 _ _ (lit< tt) (lit< tt) refl (lit≤ tt) marked.two_levels examples.two_levels_judged;
}
