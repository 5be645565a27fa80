-- The refusal for want of rows, by its number and its place.
use Rattle.std.specs.Prelude.{ℕ, List}
use Rattle.layout.specs.Refusals.{refused_at}
pub use Rattle.verdict.specs.Lines.{overfull}
use Rattle.judging.specs.declared.finding.Overfull.{Overfull}
use Rattle.judging.specs.Judgings.{place_of}

abbrev pub overfull_text : Overfull → List ℕ
overfull_text o = refused_at overfull (place_of o)
